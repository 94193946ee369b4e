use Rattle.std.proofs.Common.{arith}
use Rattle.std.proofs.lemmas.Grind.{common_steps}
use Rattle.aggregate_ops.proofs.group_rows.+put_cells.Goals as goal

pub returns-in-empty-clause-ok : goal.returns-in-empty-clause-ok
returns-in-empty-clause-ok t c = grind (arith, common_steps)

pub returns-in-empty-clause-fits : goal.returns-in-empty-clause-fits
returns-in-empty-clause-fits t c = grind (arith, common_steps)

pub returns-in_ok-put-in-Ok-clause-ok : goal.returns-in_ok-put-in-Ok-clause-ok
returns-in_ok-put-in-Ok-clause-ok t c = grind (arith, common_steps)

pub returns-in_ok-put-in-Ok-clause-fits : goal.returns-in_ok-put-in-Ok-clause-fits
returns-in_ok-put-in-Ok-clause-fits t c = grind (arith, common_steps)

pub returns-in_ok-put-in-Ok-clause-fault : goal.returns-in_ok-put-in-Ok-clause-fault
returns-in_ok-put-in-Ok-clause-fault t c = grind (arith, common_steps)
