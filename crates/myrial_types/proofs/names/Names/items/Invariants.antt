-- the items so far with what they stand for
use Rattle.std.proofs.Common.{◌≡◌, Some, take}
use Rattle.rel_base.specs.Each.{each_or_none}
use Rattle.myrial_types.specs.Resolving.{item_meant}
use Rattle.myrial_types.proofs.names.Names.items.Given as goal

abbrev pub invariant-loop-item : goal.invariant-loop-item
invariant-loop-item l = each_or_none (item_meant l.files l.self) (take l.item-index l.items) ≡ Some l.found.items
