use Rattle.expr_eval.proofs.PlaceLemmas.{value_at-past}
use Rattle.std.proofs.Common.{arith}
use Rattle.expr_eval.proofs.evaluating.at.Goals as goal

pub returns-in-None-clause-value : goal.returns-in-None-clause-value
returns-in-None-clause-value g c = grind (arith, value_at-past)

pub returns-in-None-clause-fits : goal.returns-in-None-clause-fits
returns-in-None-clause-fits g c = grind (arith, value_at-past)
