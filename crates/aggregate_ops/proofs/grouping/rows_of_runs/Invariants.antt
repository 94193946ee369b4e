use Rattle.std.proofs.Common.{◌≡◌, [], ◌-◌, ◌≤◌, length, map, drop}
use Rattle.algebra.specs.Trees.{kind_of_emit}
use Rattle.aggregate_ops.specs.inner.Reading.{rows_of}
use Rattle.aggregate_ops.proofs.CellLemmas.{LeftOver}
use Rattle.aggregate_ops.proofs.grouping.rows_of_runs.Given as goal

abbrev pub invariant-loop-done : goal.invariant-loop-done
invariant-loop-done l = record {
  within : l.done ≤ length (rows_of l.ordered);
  few : length l.made ≤ l.done;
  empty : l.row ≡ [];
  left : LeftOver l.form (map kind_of_emit l.kinds) l.places (rows_of l.ordered) l.made (drop l.done (rows_of l.ordered));
}

abbrev pub decreases-loop-done : goal.decreases-loop-done
decreases-loop-done l = length (rows_of l.initial.ordered) - l.done
