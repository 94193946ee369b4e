use Rattle.run_laws.proofs.HeldLemmas.{steps_are_ready}
use Rattle.run_laws.proofs.held.steps_are_ready.Goals as goal

pub returns : goal.returns
returns c = steps_are_ready
