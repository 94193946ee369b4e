use Rattle.std.proofs.Common.{◌∙◌}
use Rattle.relation_csv.proofs.ReadAsLemmas.{IsReadAs-Ok, IsReadAs-part}
use Rattle.relation_csv.proofs.RelationLemmas.{relation_of_bytes-header, relation_of_bytes-no_header, relation_of_rows-Err, relation_of_rows-Ok}
use Rattle.relation_csv.proofs.TypeLemmas.{HasTypes-rows_of_records}
use Rattle.relation_csv.proofs.files.relation_by.Goals as goal

pub returns-in_err-schema : goal.returns-in_err-schema
returns-in_err-schema g c =
    IsReadAs-part _ c.in_err-schema.field-0.0 _ _ c.from_residual.ensures.1 c.in_err-schema.ensures.schema
    (λ e. relation_of_bytes-no_header c.args.bytes.now _ (rw c.reader_of-reader.ensures.left at e))

pub returns-in_err-rows : goal.returns-in_err-rows
returns-in_err-rows g c =
    let named = rw c.reader_of-reader.ensures.left at (IsReadAs-Ok _ _ c.in_ok-schema.ensures.schema) in
    let left = rw c.reader_of-reader.ensures.left at c.in_ok-schema.ensures.left in
    IsReadAs-part _ c.in_err-rows.field-0.0 _ _ c.from_residual-in_err-rows.ensures.1 c.in_err-rows.ensures
    (λ e. relation_of_bytes-header c.args.bytes.now c.in_ok-schema.schema named
    ∙ relation_of_rows-Err c.in_ok-schema.schema _ _ (rw left at e))

pub rows_behind-requires-clause-left : goal.rows_behind-requires-clause-left
rows_behind-requires-clause-left g c = rw c.reader_of-reader.ensures.left at c.in_ok-schema.ensures.left

pub new-requires : goal.new-requires
new-requires g c =
    HasTypes-rows_of_records c.in_ok-schema.schema _ c.in_ok-rows.rows (IsReadAs-Ok _ _ c.in_ok-rows.ensures)

pub returns : goal.returns
returns g c = λ short.
    let named = rw c.reader_of-reader.ensures.left at (IsReadAs-Ok _ _ c.in_ok-schema.ensures.schema) in
    let left = rw c.reader_of-reader.ensures.left at c.in_ok-schema.ensures.left in
    rw (c.new.ensures.schema, c.new.ensures.rows)
    (relation_of_bytes-header c.args.bytes.now c.in_ok-schema.schema named
    ∙ relation_of_rows-Ok c.in_ok-schema.schema c.in_ok-rows.rows _ (rw left at (IsReadAs-Ok _ _ c.in_ok-rows.ensures)))
