use Rattle.std.proofs.Common.{◌≡◌, ℕ, ◌-◌, ◌<◌, ◌≤◌, true, [], length, get_or, is_lt}
use Rattle.rel_base.specs.Values.{row_order}
use Rattle.aggregate_ops.specs.Columns.{rows_in}
use Rattle.aggregate_ops.proofs.bags.rows_below.Given as goal

abbrev pub invariant-loop-count : goal.invariant-loop-count
invariant-loop-count l =
    (l.count ≤ length l.rows)
    × ((k : ℕ) → k < l.count → is_lt (row_order (get_or (rows_in l.rows) k []) l.row) ≡ true)

abbrev pub decreases-loop-count : goal.decreases-loop-count
decreases-loop-count l = length l.initial.rows - l.count
