use Rattle.std.proofs.Common.{arith}
use Rattle.std.proofs.lemmas.Grind.{common_steps}
use Rattle.myrial_types.proofs.kinds.comprehension_kind.Goals as goal

pub returns : goal.returns
returns c = grind (arith, common_steps)
