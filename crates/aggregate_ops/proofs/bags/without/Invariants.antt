use Rattle.std.proofs.Common.{◌-◌, ◌≤◌, length, drop}
use Rattle.packed_rows.proofs.BagLemmas.{SideBySide}
use Rattle.aggregate_ops.specs.Columns.{rows_in}
use Rattle.aggregate_ops.proofs.bags.without.Given as goal

abbrev pub invariant-loop-done : goal.invariant-loop-done
invariant-loop-done l =
    (l.done ≤ length l.rows) × (l.passed ≤ length l.others) × (length l.made ≤ l.done)
    × SideBySide (rows_in l.rows) (rows_in l.others) l.made (rows_in (drop l.done l.rows)) (rows_in (drop l.passed l.others))

abbrev pub decreases-loop-done : goal.decreases-loop-done
decreases-loop-done l = length l.initial.rows - l.done
