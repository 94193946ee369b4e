use Rattle.run_laws.proofs.MovedLemmas.{moved_are_of_same_exchanges}
use Rattle.run_laws.proofs.bags.moved_are_of_same_exchanges.Goals as goal

pub returns : goal.returns
returns c = moved_are_of_same_exchanges
