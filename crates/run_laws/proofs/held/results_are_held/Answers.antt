use Rattle.run_laws.proofs.HeldLemmas.{results_are_held}
use Rattle.run_laws.proofs.held.results_are_held.Goals as goal

pub returns : goal.returns
returns c = results_are_held
