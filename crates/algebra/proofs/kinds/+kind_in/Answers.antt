use Rattle.std.proofs.Common.{arith}
use Rattle.std.proofs.lemmas.Grind.{common_steps}
use Rattle.algebra.proofs.kinds.+kind_in.Goals as goal

pub returns-in-Not : goal.returns-in-Not
returns-in-Not t c = grind (arith, common_steps)
