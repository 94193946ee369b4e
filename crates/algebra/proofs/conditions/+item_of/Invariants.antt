-- what is left
use Rattle.std.proofs.Common.{length}
use Rattle.algebra.proofs.conditions.+item_of.Given as goal

abbrev pub decreases-item_of : goal.decreases-item_of
decreases-item_of l = length l.widths.now
