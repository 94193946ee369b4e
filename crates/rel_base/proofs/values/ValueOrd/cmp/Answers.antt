use Rattle.std.proofs.Common.{arith}
use Rattle.std.proofs.lemmas.Grind.{common_steps}
use Rattle.rel_base.proofs.values.ValueOrd.cmp.Goals as goal

pub returns-in-Int-default : goal.returns-in-Int-default
returns-in-Int-default c = grind (arith, common_steps)
