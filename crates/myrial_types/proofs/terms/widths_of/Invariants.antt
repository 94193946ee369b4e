-- the widths of the items so far
use Rattle.std.proofs.Common.{◌≡◌, take}
use Rattle.myrial_types.specs.Resolving.{kinds_of_items}
use Rattle.algebra.specs.ShapeLaws.{widths_in}
use Rattle.myrial_types.proofs.terms.widths_of.Given as goal

abbrev pub invariant-loop-item : goal.invariant-loop-item
invariant-loop-item l = l.widths.items ≡ widths_in (kinds_of_items (take l.item-index l.items))
