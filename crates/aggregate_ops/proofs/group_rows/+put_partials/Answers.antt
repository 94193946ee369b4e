use Rattle.std.proofs.Common.{arith}
use Rattle.std.proofs.lemmas.Grind.{common_steps}
use Rattle.aggregate_ops.proofs.group_rows.+put_partials.Goals as goal

pub returns-in-empty : goal.returns-in-empty
returns-in-empty t c = grind (arith, common_steps)

pub returns-in_ok-put_sum-in-Agg : goal.returns-in_ok-put_sum-in-Agg
returns-in_ok-put_sum-in-Agg t c = grind (arith, common_steps)

pub returns-in_ok-put-in-Ok : goal.returns-in_ok-put-in-Ok
returns-in_ok-put-in-Ok t c = grind (arith, common_steps)
