use Rattle.std.proofs.Common.{arith}
use Rattle.std.proofs.lemmas.Grind.{common_steps}
use Rattle.expr_eval.proofs.evaluating.+lent.Goals as goal

-- both sides fit, and so does what the operator makes of them
pub returns-in_ok-right-in-Bin-clause-fits : goal.returns-in_ok-right-in-Bin-clause-fits
returns-in_ok-right-in-Bin-clause-fits g t c = grind (arith, common_steps)

-- the operator has the value of each side
pub returns-in_ok-right-in-Bin-clause-value : goal.returns-in_ok-right-in-Bin-clause-value
returns-in_ok-right-in-Bin-clause-value g t c = grind (arith, common_steps)
