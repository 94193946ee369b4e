use Rattle.std.proofs.Common.{◌≡◌, ◌+◌, ◌-◌, ◌≤◌, length}
use Rattle.rel_base.specs.Picks.{items_at}
use Rattle.rel_base.specs.inner.Strides.{stepped}
use Rattle.rel_base.proofs.rows.Rows.slice.Given as goal

abbrev pub invariant-loop-reached : goal.invariant-loop-reached
invariant-loop-reached l =
    (l.picked ≡ items_at l.self (stepped l.from 1 (l.reached - l.from))) × (length l.picked + l.from ≡ l.reached)
    × (l.reached ≤ l.to)

abbrev pub decreases-loop-reached : goal.decreases-loop-reached
decreases-loop-reached l = l.to - l.reached
