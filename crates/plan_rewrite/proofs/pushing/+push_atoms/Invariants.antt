-- what is left
use Rattle.std.proofs.Common.{length}
use Rattle.plan_rewrite.proofs.pushing.+push_atoms.Given as goal

abbrev pub decreases-push_atoms : goal.decreases-push_atoms
decreases-push_atoms l = length l.atoms.now
