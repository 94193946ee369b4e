use Rattle.myrial_meaning.proofs.NeededLemmas.{needed_by_rule}
use Rattle.myrial_meaning.proofs.laws.needed_statements_are_the_least_set.Goals as goal

pub returns : goal.returns
returns c s rest = needed_by_rule s rest
