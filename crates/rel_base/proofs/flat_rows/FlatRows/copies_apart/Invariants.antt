-- the copies so far are the rows so far
use Rattle.std.proofs.Common.{◌≡◌}
use Rattle.rel_base.specs.Picks.{items_at}
use Rattle.rel_base.specs.inner.Strides.{stepped}
use Rattle.rel_base.proofs.flat_rows.FlatRows.copies_apart.Given as goal

abbrev pub invariant-loop-i : goal.invariant-loop-i
invariant-loop-i l = l.copies ≡ items_at l.self (stepped l.start l.step l.i)
