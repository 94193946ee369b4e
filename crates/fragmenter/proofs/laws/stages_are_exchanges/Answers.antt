use Rattle.fragmenter.proofs.ExchangeLemmas.{stages_are_exchanges}
use Rattle.fragmenter.proofs.laws.stages_are_exchanges.Goals as goal

pub returns : goal.returns
returns c = stages_are_exchanges
