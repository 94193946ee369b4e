-- the copies so far are the items so far
use Rattle.std.proofs.Common.{◌≡◌}
use Rattle.rel_base.specs.Picks.{items_at}
use Rattle.rel_base.specs.inner.Strides.{stepped}
use Rattle.rel_base.proofs.strides.copies_apart.Given as goal

abbrev pub invariant-loop-i : goal.invariant-loop-i
invariant-loop-i g l = l.copies.items ≡ items_at l.items (stepped l.start l.step l.i)
