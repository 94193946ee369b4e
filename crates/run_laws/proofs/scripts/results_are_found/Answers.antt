use Rattle.run_laws.proofs.ScriptLemmas.{results_are_found}
use Rattle.run_laws.proofs.scripts.results_are_found.Goals as goal

pub returns : goal.returns
returns c = results_are_found
