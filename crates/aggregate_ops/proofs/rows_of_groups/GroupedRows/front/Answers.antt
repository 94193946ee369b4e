use Rattle.std.proofs.Common.{◌∙◌, ap, sym, take}
use Rattle.std.specs.Borrow.{Bor}
use Rattle.std.proofs.lemmas.List.{take-map}
use Rattle.myrial_ast.specs.Combinations.{Row}
use Rattle.packed_rows.specs.Unpacked.{unpacked_row}
use Rattle.aggregate_ops.specs.inner.Reading.{rows_of}
use Rattle.aggregate_ops.proofs.rows_of_groups.GroupedRows.front.Goals as goal

pub returns-in-Lent : goal.returns-in-Lent
returns-in-Lent c =
    let row = λ (r : Bor Row). r.now in
    let count = c.args.count in
    let rows = c.in-Lent.rows.now in
    sym (take-map row count rows) ∙ sym (ap (λ r. take count (rows_of r)) c.in-Lent.is)

pub returns-in-Packed : goal.returns-in-Packed
returns-in-Packed c =
    let row = unpacked_row c.in-Packed.columns.now in
    let count = c.args.count in
    let words = c.in-Packed.words.now in
    sym (take-map row count words) ∙ sym (ap (λ r. take count (rows_of r)) c.in-Packed.is)
