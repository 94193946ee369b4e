use Rattle.run_laws.proofs.MovedLemmas.{counts_are_of_same_exchanges}
use Rattle.run_laws.proofs.bags.counts_are_of_same_exchanges.Goals as goal

pub returns : goal.returns
returns c = counts_are_of_same_exchanges
