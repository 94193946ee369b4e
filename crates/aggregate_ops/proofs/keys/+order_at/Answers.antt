use Rattle.std.proofs.Common.{arith}
use Rattle.std.proofs.lemmas.Grind.{common_steps}
use Rattle.aggregate_ops.proofs.keys.+order_at.Goals as goal

pub returns-then-is_ne : goal.returns-then-is_ne
returns-then-is_ne t c = grind (arith, common_steps)

pub returns : goal.returns
returns t c = grind (arith, common_steps)
