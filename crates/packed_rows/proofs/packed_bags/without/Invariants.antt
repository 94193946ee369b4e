use Rattle.std.proofs.Common.{◌-◌, ◌≤◌, length, map, drop}
use Rattle.packed_rows.specs.Unpacked.{unpacked_row}
use Rattle.packed_rows.proofs.BagLemmas.{SideBySide}
use Rattle.packed_rows.proofs.packed_bags.without.Given as goal

abbrev pub invariant-loop-done : goal.invariant-loop-done
invariant-loop-done l =
    (l.done ≤ length l.words) × (l.passed ≤ length l.others) × (length l.made ≤ l.done)
    × SideBySide (map (unpacked_row l.columns) l.words) (map (unpacked_row l.columns) l.others) l.made (map (unpacked_row l.columns) (drop l.done l.words))
    (map (unpacked_row l.columns) (drop l.passed l.others))

abbrev pub decreases-loop-done : goal.decreases-loop-done
decreases-loop-done l = length l.initial.words - l.done
