-- the copies so far are the items so far
use Rattle.std.proofs.Common.{◌≡◌, take}
use Rattle.rel_base.proofs.list.copies_of.Given as goal

abbrev pub invariant-loop-item : goal.invariant-loop-item
invariant-loop-item g l = l.copies.items ≡ take l.item-index l.items
