use Rattle.join_plans.proofs.ChoiceLemmas.{chosen_are_ruled}
use Rattle.join_plans.proofs.laws.chosen_are_ruled.Goals as goal

pub returns : goal.returns
returns c = chosen_are_ruled
