use Rattle.std.proofs.Common.{arith}
use Rattle.std.proofs.lemmas.Grind.{common_steps}
use Rattle.myrial_meaning.proofs.needed.is_needed.Goals as goal

pub returns-in-Assign : goal.returns-in-Assign
returns-in-Assign c = grind (arith, common_steps)
