use Rattle.std.proofs.Common.{arith}
use Rattle.std.proofs.lemmas.Grind.{common_steps}
use Rattle.crew.proofs.beside.+fronts.Goals as goal

pub returns-in-empty-clause-back : goal.returns-in-empty-clause-back
returns-in-empty-clause-back g t c = grind (arith, common_steps)
