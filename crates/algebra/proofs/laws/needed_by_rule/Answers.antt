use Rattle.algebra.proofs.NeededLemmas.{needed_by_rule}
use Rattle.algebra.proofs.laws.needed_by_rule.Goals as goal

pub returns : goal.returns
returns c = needed_by_rule
