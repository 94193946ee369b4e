-- what is left
use Rattle.std.proofs.Common.{length}
use Rattle.plan_rewrite.proofs.pushing.+push_keeps.Given as goal

abbrev pub decreases-push_keeps : goal.decreases-push_keeps
decreases-push_keeps l = length l.atoms.now
