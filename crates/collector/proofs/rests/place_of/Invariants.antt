use Rattle.std.proofs.Common.{◌-◌, ◌≤◌, length}
use Rattle.collector.proofs.CutLemmas.{AreBefore, AreBehind}
use Rattle.collector.proofs.rests.place_of.Given as goal

abbrev pub invariant-loop-low : goal.invariant-loop-low
invariant-loop-low l =
    (l.from ≤ l.low) × (l.low ≤ l.high) × (l.high ≤ length l.part)
    × AreBefore l.splitter l.part l.from l.low × AreBehind l.splitter l.part l.high

abbrev pub decreases-loop-low : goal.decreases-loop-low
decreases-loop-low l = l.high - l.low
