use Rattle.std.proofs.Common.{◌∙◌, sym}
use Rattle.relation_csv.proofs.ReadAsLemmas.{IsReadAs-Ok, IsReadAs-part}
use Rattle.relation_csv.proofs.RelationLemmas.{relation_of_rows-Err, relation_of_rows-Ok, relation_with-rows}
use Rattle.relation_csv.proofs.TypeLemmas.{HasTypes-rows_of_records}
use Rattle.relation_csv.proofs.files.relation_under.Goals as goal

pub returns-then-not-branch : goal.returns-then-not-branch
returns-then-not-branch g c = λ short.
    let none = rw (c.if-not-branch.true, c.reader_of-reader.ensures.left) at c.in_ok-skip_records.ensures.left in
    rw (c.new-then-not-branch.ensures.schema, c.new-then-not-branch.ensures.rows, c.in_ok-schema.ensures, c.new.ensures)
    (relation_with-rows c.args.bytes.now c.args.schema.now c.args.skip _ none)

pub returns-in_err-rows : goal.returns-in_err-rows
returns-in_err-rows g c =
    let left = rw (c.if-not-branch.false, c.reader_of-reader.ensures.left) at c.in_ok-skip_records.ensures.left in
    IsReadAs-part _ c.in_err-rows.field-0.0 _ _ c.from_residual-in_err-rows.ensures.1 c.in_err-rows.ensures
    (λ e. relation_with-rows c.args.bytes.now c.args.schema.now c.args.skip _ left
    ∙ relation_of_rows-Err c.args.schema.now _ _ (rw c.in_ok-schema.ensures at e))

pub rows_behind-requires-clause-left : goal.rows_behind-requires-clause-left
rows_behind-requires-clause-left g c =
    sym (rw (c.if-not-branch.false, c.reader_of-reader.ensures.left) at c.in_ok-skip_records.ensures.left)

pub new-requires-2 : goal.new-requires-2
new-requires-2 g c =
    HasTypes-rows_of_records c.in_ok-schema.schema _ c.in_ok-rows.rows (IsReadAs-Ok _ _ c.in_ok-rows.ensures)

pub returns : goal.returns
returns g c = λ short.
    let left = rw (c.if-not-branch.false, c.reader_of-reader.ensures.left) at c.in_ok-skip_records.ensures.left in
    let rows = IsReadAs-Ok _ _ c.in_ok-rows.ensures in
    rw (c.new-2.ensures.schema, c.new-2.ensures.rows, c.in_ok-schema.ensures)
    (relation_with-rows c.args.bytes.now c.args.schema.now c.args.skip _ left
    ∙ relation_of_rows-Ok c.args.schema.now c.in_ok-rows.rows _ (rw c.in_ok-schema.ensures at rows))
