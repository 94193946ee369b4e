-- The row of merged partial rows, column by column.
use Rattle.std.specs.Prelude.{ℕ, ◌+◌, ◌^◌, ℤ, pos, ◌+ℤ◌, ◌*ℤ◌, Option, Some}
use Rattle.rel_base.specs.Values.{number_of}
use Rattle.myrial_ast.specs.declared.operators.AggOp.{AggOp}
use Rattle.myrial_ast.specs.declared.operators.AggOp.TheVariants as agg
use Rattle.myrial_ast.specs.Combinations.{Row, Rows}
use Rattle.myrial_ast.specs.Groups.{Kinds, cell}
use Rattle.myrial_ast.specs.Partials.{whole_sums, partial_kinds}
use Rattle.aggregate_ops.specs.Columns.{column, cells}

-- how a column that isn't a sum is grouped again
abbrev pub added_kind : Option AggOp → Option AggOp
added_kind (Some agg.Count) = Some agg.Sum
added_kind (Some agg.CountAll) = Some agg.Sum
added_kind kind = kind

-- the values of merged partial rows in the columns of these kinds, which they have from a place on
abbrev pub merged_cells : ℕ → Kinds → Rows → Row
merged_cells place kinds rows = whole_sums kinds (cells place (partial_kinds kinds) rows)

-- the sum whose two columns stand from a place on
abbrev pub whole_sum : Rows → ℕ → ℤ
whole_sum rows place =
    (number_of (cell (Some agg.Sum) (column rows place)) *ℤ pos (2 ^ 62))
    +ℤ number_of (cell (Some agg.Sum) (column rows (place + 1)))
