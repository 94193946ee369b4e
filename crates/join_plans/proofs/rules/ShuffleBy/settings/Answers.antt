use Rattle.std.proofs.Common.{sym, ap}
use Rattle.placement.specs.Plans.{usual_rule}
use Rattle.join_plans.proofs.rules.ShuffleBy.settings.Goals as goal

pub returns-in-Rs : goal.returns-in-Rs
returns-in-Rs c = ap usual_rule (sym c.in-Rs.is)
