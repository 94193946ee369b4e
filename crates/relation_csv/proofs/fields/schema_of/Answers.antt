use Rattle.std.proofs.Common.{◌≡◌, ◌≤◌, ◌∙◌, length, take, sym, ap, arith, length-take}
use Rattle.csv.specs.Records.{fields_of}
use Rattle.relation_csv.specs.Fields.{column_of_field}
use Rattle.relation_csv.specs.Numbered.{each_numbered}
use Rattle.relation_csv.proofs.NumberedLemmas.{each_numbered-fault_at, each_numbered-next, length-each_numbered}
use Rattle.relation_csv.proofs.ReadAsLemmas.{IsReadAs-Ok, IsReadAs-part}
use Rattle.relation_csv.proofs.RecordIterLemmas.{YieldsList-from_record}
use Rattle.relation_csv.proofs.SchemaLemmas.{schema_of_record-columns}
use Rattle.std.proofs.lemmas.Iterator.Consumers.{YieldsList-end, YieldsList-turn}
use Rattle.std.proofs.lemmas.List.{length_push, take_all}
use Rattle.relation_csv.proofs.fields.schema_of.Goals as goal

pub overflow_add-len : goal.overflow_add-len
overflow_add-len c =
    let fields = fields_of c.args.header.now in
    let size = length-each_numbered column_of_field 1 (take (length c.loop-field.yielded) fields)
    c.loop-field.schema c.loop-field.invariant in
    omega (arith, length-take (length c.loop-field.yielded) fields)

pub returns-in_err-column : goal.returns-in_err-column
returns-in_err-column c =
    let fields = fields_of c.args.header.now in
    let it = c.into_iter-field-iterator.ensures.into_iter_gives in
    let all = YieldsList-from_record c.into_iter-field-iterator.result fields it.1 (ap fields_of it.0) in
    let turn = YieldsList-turn all c.loop-field.yielded _ c.loop-field.yielded_by _ _ c.in-Some.field c.in-Some.is
    c.next.ensures.steps in
    let size = length-each_numbered column_of_field 1 (take (length c.loop-field.yielded) fields)
    c.loop-field.schema c.loop-field.invariant in
    let taken = length-take (length c.loop-field.yielded) fields in
    let low = turn.0 in
    let few : length fields ≤ 16 = omega arith in
    IsReadAs-part _ c.in_err-column.field-0.0 _ _ c.from_residual.ensures.1 c.in_err-column.ensures
    (λ e. schema_of_record-columns fields c.requires few
    ∙ each_numbered-fault_at column_of_field 1 fields _ c.in-Some.field.now c.loop-field.schema _ _ turn.0 turn.1
    (omega arith) c.loop-field.invariant e)

pub push-requires : goal.push-requires
push-requires c =
    let fields = fields_of c.args.header.now in
    let size = length-each_numbered column_of_field 1 (take (length c.loop-field.yielded) fields)
    c.loop-field.schema c.loop-field.invariant in
    omega (arith, length-take (length c.loop-field.yielded) fields)

pub loop-field-preserved : goal.loop-field-preserved
loop-field-preserved c =
    let fields = fields_of c.args.header.now in
    let it = c.into_iter-field-iterator.ensures.into_iter_gives in
    let all = YieldsList-from_record c.into_iter-field-iterator.result fields it.1 (ap fields_of it.0) in
    let turn = YieldsList-turn all c.loop-field.yielded _ c.loop-field.yielded_by _ _ c.in-Some.field c.in-Some.is
    c.next.ensures.steps in
    let size = length-each_numbered column_of_field 1 (take (length c.loop-field.yielded) fields)
    c.loop-field.schema c.loop-field.invariant in
    rw (length_push, c.in_ok-push.ensures.ok)
    (each_numbered-next column_of_field 1 fields (length c.loop-field.yielded)
    c.in-Some.field.now c.loop-field.schema c.in_ok-column.column _ turn.0 turn.1 (omega arith)
    c.loop-field.invariant (IsReadAs-Ok _ _ c.in_ok-column.ensures))

pub returns : goal.returns
returns c = λ short.
    let fields = fields_of c.args.header.now in
    let it = c.into_iter-field-iterator.ensures.into_iter_gives in
    let all = YieldsList-from_record c.into_iter-field-iterator.result fields it.1 (ap fields_of it.0) in
    let end = YieldsList-end all c.loop-field.yielded _ c.loop-field.yielded_by _ _ c.in-None.is c.next.ensures.steps in
    let whole : take (length c.loop-field.yielded) fields ≡ fields = take_all (length c.loop-field.yielded) fields
    (omega arith) in
    schema_of_record-columns fields c.requires (omega arith)
    ∙ sym (ap (each_numbered column_of_field 1) whole) ∙ c.loop-field.invariant
