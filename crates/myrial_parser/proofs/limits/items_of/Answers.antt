use Rattle.std.proofs.Common.{arith}
use Rattle.std.proofs.lemmas.Grind.{common_steps}
use Rattle.myrial_parser.proofs.limits.items_of.Goals as goal

pub returns-in-Assign-default-From : goal.returns-in-Assign-default-From
returns-in-Assign-default-From c = grind (arith, common_steps)
