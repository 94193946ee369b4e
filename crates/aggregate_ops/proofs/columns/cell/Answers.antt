use Rattle.std.proofs.Common.{arith}
use Rattle.std.proofs.lemmas.Grind.{common_steps}
use Rattle.aggregate_ops.proofs.columns.cell.Goals as goal

pub returns-in_default-clause-value : goal.returns-in_default-clause-value
returns-in_default-clause-value c = grind (arith, common_steps)

pub returns-in-Key-clause-value : goal.returns-in-Key-clause-value
returns-in-Key-clause-value c = grind (arith, common_steps)

pub returns-in-Ok-clause-value : goal.returns-in-Ok-clause-value
returns-in-Ok-clause-value c = grind (arith, common_steps)

pub returns-in-Err-clause-value : goal.returns-in-Err-clause-value
returns-in-Err-clause-value c = grind (arith, common_steps)

pub returns-in-Agg-Count-clause-value : goal.returns-in-Agg-Count-clause-value
returns-in-Agg-Count-clause-value c = grind (arith, common_steps)

pub returns-in-Agg-CountAll-clause-value : goal.returns-in-Agg-CountAll-clause-value
returns-in-Agg-CountAll-clause-value c = grind (arith, common_steps)

pub returns-in-Agg-Min-clause-value : goal.returns-in-Agg-Min-clause-value
returns-in-Agg-Min-clause-value c = grind (arith, common_steps)

pub returns-in-Agg-Max-clause-value : goal.returns-in-Agg-Max-clause-value
returns-in-Agg-Max-clause-value c = grind (arith, common_steps)

pub returns-in-Err-clause-fault : goal.returns-in-Err-clause-fault
returns-in-Err-clause-fault c = grind (arith, common_steps)
