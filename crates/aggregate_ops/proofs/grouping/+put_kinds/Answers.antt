use Rattle.std.proofs.Common.{arith}
use Rattle.std.proofs.lemmas.Grind.{common_steps}
use Rattle.aggregate_ops.proofs.grouping.+put_kinds.Goals as goal

pub returns-in-empty : goal.returns-in-empty
returns-in-empty t c = grind (arith, common_steps)

pub returns-in_ok-push-in-Agg-2 : goal.returns-in_ok-push-in-Agg-2
returns-in_ok-push-in-Agg-2 t c = grind (arith, common_steps)

pub returns-in_ok-push-in-len1-up : goal.returns-in_ok-push-in-len1-up
returns-in_ok-push-in-len1-up t c = grind (arith, common_steps)
