use Rattle.std.proofs.Common.{◌≡◌, ◌∙◌, ◌≤◌, List, [], ◌∷◌, length, get_or, ap, arith}
use Rattle.std.specs.Borrow.{Bor}
use Rattle.myrial_ast.specs.Combinations.{Row}
use Rattle.myrial_ast.specs.Bags.{same_row}
use Rattle.packed_rows.specs.Runs.{begins}
use Rattle.packed_rows.proofs.StepLemmas.{same-values}
use Rattle.aggregate_ops.specs.Columns.{rows_in}
use Rattle.aggregate_ops.proofs.bags.begins_with.Goals as goal

begun : (rows : List (Bor Row)) (first : Bor Row) (row : Row) → 1 ≤ length rows → first ≡ get_or rows 0 first
    → same_row row first.now ≡ begins (rows_in rows) row
begun [] first row long is = absurd (omega (arith, long))
begun (one ∷ rows) first row long is = ap (λ (r : Bor Row). same_row row r.now) is

pub returns-in-len1-up : goal.returns-in-len1-up
returns-in-len1-up c =
    c.eq.ensures ∙ same-values c.args.row.now c.first-item.result.now
    ∙ begun c.args.rows.now c.first-item.result c.args.row.now c.in-len1-up.len_at_least c.first-item.is
