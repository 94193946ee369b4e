use Rattle.std.proofs.Common.{arith}
use Rattle.std.proofs.lemmas.Grind.{common_steps}
use Rattle.crew.proofs.halving.+halves.Goals as goal

pub run_back-returns : goal.run_back-returns
run_back-returns g t c = c.run_all.ensures

pub returns-in-len1 : goal.returns-in-len1
returns-in-len1 g t c = grind (arith, common_steps)

pub returns-in_default : goal.returns-in_default
returns-in_default g t c = grind (arith, common_steps)
