use Rattle.run_laws.proofs.BagLemmas.{ready_are_of_bags}
use Rattle.run_laws.proofs.scripts.ready_are_of_bags.Goals as goal

pub returns : goal.returns
returns c = ready_are_of_bags
