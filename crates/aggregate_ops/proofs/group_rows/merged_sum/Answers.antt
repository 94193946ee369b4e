use Rattle.std.proofs.Common.{arith}
use Rattle.std.proofs.lemmas.Grind.{common_steps}
use Rattle.aggregate_ops.proofs.group_rows.merged_sum.Goals as goal

pub returns-clause-value : goal.returns-clause-value
returns-clause-value c = grind (arith, common_steps)

pub returns-clause-fits : goal.returns-clause-fits
returns-clause-fits c = grind (arith, common_steps)

pub returns-clause-fault : goal.returns-clause-fault
returns-clause-fault c = grind (arith, common_steps)
