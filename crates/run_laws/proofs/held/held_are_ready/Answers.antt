use Rattle.run_laws.proofs.LoopLemmas.{held_are_ready}
use Rattle.run_laws.proofs.held.held_are_ready.Goals as goal

pub returns : goal.returns
returns c = held_are_ready
