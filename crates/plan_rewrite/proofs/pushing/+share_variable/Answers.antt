use Rattle.std.proofs.Common.{arith}
use Rattle.std.proofs.lemmas.Grind.{common_steps}
use Rattle.plan_rewrite.proofs.pushing.+share_variable.Goals as goal

pub returns-then-is_among-2 : goal.returns-then-is_among-2
returns-then-is_among-2 t c = grind (arith, common_steps)
