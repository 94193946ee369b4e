-- what is left
use Rattle.std.proofs.Common.{length}
use Rattle.plan_rewrite.proofs.pushing.+push_spans.Given as goal

abbrev pub decreases-push_spans : goal.decreases-push_spans
decreases-push_spans l = length l.atoms.now
