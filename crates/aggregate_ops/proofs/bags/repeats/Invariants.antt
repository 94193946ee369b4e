use Rattle.std.proofs.Common.{◌≡◌, ℕ, ◌-◌, ◌<◌, ◌≤◌, [], length, get_or}
use Rattle.aggregate_ops.specs.Columns.{rows_in}
use Rattle.aggregate_ops.proofs.bags.repeats.Given as goal

abbrev pub invariant-loop-count : goal.invariant-loop-count
invariant-loop-count l =
    (0 < l.count) × (l.count ≤ length l.rows)
    × ((k : ℕ) → k < l.count → get_or (rows_in l.rows) k [] ≡ get_or (rows_in l.rows) 0 [])

abbrev pub decreases-loop-count : goal.decreases-loop-count
decreases-loop-count l = length l.initial.rows - l.count
