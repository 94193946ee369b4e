use Rattle.std.proofs.Common.{arith}
use Rattle.std.proofs.lemmas.Grind.{common_steps}
use Rattle.aggregate_ops.proofs.keys.order_in.Goals as goal

pub returns-in-Packed-Packed : goal.returns-in-Packed-Packed
returns-in-Packed-Packed c = grind (arith, common_steps)

pub returns-in-Lent-Lent : goal.returns-in-Lent-Lent
returns-in-Lent-Lent c = grind (arith, common_steps)

pub bounds-columns-place : goal.bounds-columns-place
bounds-columns-place c = grind (arith, common_steps)

pub bounds-row-place : goal.bounds-row-place
bounds-row-place c = grind (arith, common_steps)

pub bounds-other-other_place : goal.bounds-other-other_place
bounds-other-other_place c = grind (arith, common_steps)
