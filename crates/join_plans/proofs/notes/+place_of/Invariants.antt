-- what is left
use Rattle.std.proofs.Common.{length}
use Rattle.join_plans.proofs.notes.+place_of.Given as goal

abbrev pub decreases-place_of : goal.decreases-place_of
decreases-place_of l = length l.widths.now
