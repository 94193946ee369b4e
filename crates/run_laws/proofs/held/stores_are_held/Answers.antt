use Rattle.run_laws.proofs.LoopLemmas.{stores_are_held}
use Rattle.run_laws.proofs.held.stores_are_held.Goals as goal

pub returns : goal.returns
returns c = stores_are_held
