use Rattle.run_laws.proofs.TermLemmas.{terms_are_of_bags}
use Rattle.run_laws.proofs.bags.terms_are_of_bags.Goals as goal

pub returns : goal.returns
returns c = terms_are_of_bags
