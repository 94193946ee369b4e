use Rattle.std.proofs.Common.{◌≡◌, ℕ, ◌-◌, ◌<◌, ◌≤◌, [], length, map, get_or}
use Rattle.aggregate_ops.specs.Columns.{key_at}
use Rattle.aggregate_ops.specs.inner.Reading.{rows_of}
use Rattle.aggregate_ops.proofs.key_runs.run_length.Given as goal

abbrev pub invariant-loop-count : goal.invariant-loop-count
invariant-loop-count l =
    (0 < l.count) × (l.count ≤ length (rows_of l.rows))
    × ((k : ℕ) → k < l.count → get_or (map (key_at l.places) (rows_of l.rows)) k [] ≡ get_or (map (key_at l.places) (rows_of l.rows)) 0 [])

abbrev pub decreases-loop-count : goal.decreases-loop-count
decreases-loop-count l = length (rows_of l.initial.rows) - l.count
