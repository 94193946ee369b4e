use Rattle.std.proofs.Common.{arith}
use Rattle.std.proofs.lemmas.Grind.{common_steps}
use Rattle.aggregate_ops.proofs.keys.order_of_read.Goals as goal

pub returns : goal.returns
returns c = grind (arith, common_steps)
