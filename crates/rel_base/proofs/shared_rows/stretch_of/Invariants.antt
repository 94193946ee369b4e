use Rattle.std.proofs.Common.{◌-◌, ◌<◌, ◌≤◌, length, take}
use Rattle.rel_base.specs.Picks.{joined}
use Rattle.rel_base.proofs.shared_rows.stretch_of.Given as goal

abbrev pub invariant-loop-high : goal.invariant-loop-high
invariant-loop-high l =
    (l.low < l.high) × (l.high ≤ length l.stretches) × (length (joined (take l.low l.stretches)) ≤ l.i) × (l.i < length (joined (take l.high l.stretches)))

abbrev pub decreases-loop-high : goal.decreases-loop-high
decreases-loop-high l = l.high - l.low
