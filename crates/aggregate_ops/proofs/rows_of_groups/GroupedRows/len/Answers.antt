use Rattle.std.proofs.Common.{arith}
use Rattle.std.proofs.lemmas.Grind.{common_steps}
use Rattle.aggregate_ops.proofs.rows_of_groups.GroupedRows.len.Goals as goal

pub returns-in-Lent : goal.returns-in-Lent
returns-in-Lent c = grind (arith, common_steps)

pub returns-in-Packed : goal.returns-in-Packed
returns-in-Packed c = grind (arith, common_steps)
