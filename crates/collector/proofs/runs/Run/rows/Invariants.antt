use Rattle.std.proofs.Common.{◌≡◌, ◌++◌}
use Rattle.collector.specs.inner.Sorted.{rows_at}
use Rattle.collector.proofs.runs.Run.rows.Given as goal

abbrev pub invariant-loop-row : goal.invariant-loop-row
invariant-loop-row l =
    (goal.iterator-loop-row).can_next l.row-iterator × (goal.iterator-loop-row).is_finite l.row-iterator
    × (rows_at l.rows.items ++ l.row-iterator ≡ l.self-inside.view)
