use Rattle.std.proofs.Common.{◌≡◌, ◌∙◌, length, take, zip, sym, ap, arith, length-take}
use Rattle.csv.specs.Records.{fields_of}
use Rattle.relation_csv.specs.Files.{value_under}
use Rattle.relation_csv.specs.Numbered.{each_numbered}
use Rattle.relation_csv.proofs.NumberedLemmas.{each_numbered-fault_at, each_numbered-next, length-each_numbered}
use Rattle.relation_csv.proofs.ReadAsLemmas.{IsReadAs-Ok, IsReadAs-part}
use Rattle.relation_csv.proofs.RecordIterLemmas.{YieldsList-from_pairs}
use Rattle.relation_csv.proofs.RowLemmas.{row_of_record-values}
use Rattle.std.proofs.lemmas.Iterator.Consumers.{YieldsList-end, YieldsList-turn}
use Rattle.std.proofs.lemmas.List.{length_push, take_all}
use Rattle.std.proofs.lemmas.Slice.Zip.{length-zip}
use Rattle.relation_csv.proofs.fields.row_of.Goals as goal

pub overflow_add-len : goal.overflow_add-len
overflow_add-len c =
    let schema = c.args.schema.now in
    let fields = fields_of c.args.fields.now in
    let all = YieldsList-from_pairs c.into_iter-column-iterator.result schema fields (cc) (cc) (cc) in
    let turn = YieldsList-turn all c.loop-column.yielded c.loop-column.column-iterator c.loop-column.yielded_by
    c.next.result c.next.new.self (c.in-Some.column, c.in-Some.field) c.in-Some.is c.next.ensures.steps in
    let size = length-each_numbered (value_under c.args.nth) 1 (take (length c.loop-column.yielded) (zip schema fields))
    c.loop-column.row c.loop-column.invariant in
    let same : length fields ≡ length schema = cc in
    let bound = c.as_slice.ensures.bound in
    omega (arith, length-take (length c.loop-column.yielded) (zip schema fields), length-zip schema fields)

pub returns-in_err-value : goal.returns-in_err-value
returns-in_err-value c =
    let schema = c.args.schema.now in
    let fields = fields_of c.args.fields.now in
    let nth = c.args.nth in
    let all = YieldsList-from_pairs c.into_iter-column-iterator.result schema fields (cc) (cc) (cc) in
    let turn = YieldsList-turn all c.loop-column.yielded c.loop-column.column-iterator c.loop-column.yielded_by
    c.next.result c.next.new.self (c.in-Some.column, c.in-Some.field) c.in-Some.is c.next.ensures.steps in
    let size = length-each_numbered (value_under nth) 1 (take (length c.loop-column.yielded) (zip schema fields))
    c.loop-column.row c.loop-column.invariant in
    let taken = length-take (length c.loop-column.yielded) (zip schema fields) in
    let low = turn.0 in
    let same : length fields ≡ length schema = cc in
    IsReadAs-part _ c.in_err-value.field-0.0 _ _ c.from_residual.ensures.1 c.in_err-value.ensures
    (λ e. row_of_record-values schema nth fields c.requires.nth c.requires.text same
    ∙ each_numbered-fault_at (value_under nth) 1 (zip schema fields) _
    (c.in-Some.column.now, c.in-Some.field.now) c.loop-column.row _ _ turn.0 turn.1 (omega arith) c.loop-column.invariant e)

pub push-requires : goal.push-requires
push-requires c =
    let schema = c.args.schema.now in
    let fields = fields_of c.args.fields.now in
    let all = YieldsList-from_pairs c.into_iter-column-iterator.result schema fields (cc) (cc) (cc) in
    let turn = YieldsList-turn all c.loop-column.yielded c.loop-column.column-iterator c.loop-column.yielded_by
    c.next.result c.next.new.self (c.in-Some.column, c.in-Some.field) c.in-Some.is c.next.ensures.steps in
    let size = length-each_numbered (value_under c.args.nth) 1 (take (length c.loop-column.yielded) (zip schema fields))
    c.loop-column.row c.loop-column.invariant in
    let same : length fields ≡ length schema = cc in
    let bound = c.as_slice.ensures.bound in
    omega (arith, length-take (length c.loop-column.yielded) (zip schema fields), length-zip schema fields)

pub loop-column-preserved : goal.loop-column-preserved
loop-column-preserved c =
    let schema = c.args.schema.now in
    let fields = fields_of c.args.fields.now in
    let nth = c.args.nth in
    let all = YieldsList-from_pairs c.into_iter-column-iterator.result schema fields (cc) (cc) (cc) in
    let turn = YieldsList-turn all c.loop-column.yielded c.loop-column.column-iterator c.loop-column.yielded_by
    c.next.result c.next.new.self (c.in-Some.column, c.in-Some.field) c.in-Some.is c.next.ensures.steps in
    let size = length-each_numbered (value_under nth) 1 (take (length c.loop-column.yielded) (zip schema fields))
    c.loop-column.row c.loop-column.invariant in
    rw (length_push, c.in_ok-push.ensures.ok)
    (each_numbered-next (value_under nth) 1 (zip schema fields) (length c.loop-column.yielded)
    (c.in-Some.column.now, c.in-Some.field.now) c.loop-column.row c.in_ok-value.value _ turn.0 turn.1 (omega arith)
    c.loop-column.invariant (IsReadAs-Ok _ _ c.in_ok-value.ensures))

pub returns : goal.returns
returns c = λ short.
    let schema = c.args.schema.now in
    let fields = fields_of c.args.fields.now in
    let nth = c.args.nth in
    let all = YieldsList-from_pairs c.into_iter-column-iterator.result schema fields (cc) (cc) (cc) in
    let end = YieldsList-end all c.loop-column.yielded c.loop-column.column-iterator c.loop-column.yielded_by
    c.next.result c.next.new.self c.in-None.is c.next.ensures.steps in
    let whole : take (length c.loop-column.yielded) (zip schema fields) ≡ zip schema fields = take_all
    (length c.loop-column.yielded) (zip schema fields) (omega arith) in
    let same : length fields ≡ length schema = cc in
    row_of_record-values schema nth fields c.requires.nth c.requires.text same
    ∙ sym (ap (each_numbered (value_under nth) 1) whole) ∙ c.loop-column.invariant
