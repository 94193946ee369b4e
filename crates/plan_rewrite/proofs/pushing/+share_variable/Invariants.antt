-- what is left
use Rattle.std.proofs.Common.{length}
use Rattle.plan_rewrite.proofs.pushing.+share_variable.Given as goal

abbrev pub decreases-share_variable : goal.decreases-share_variable
decreases-share_variable l = length l.variables.now
