use Rattle.run_laws.proofs.ScriptLemmas.{scripts_are_of_steps}
use Rattle.run_laws.proofs.scripts.scripts_are_of_steps.Goals as goal

pub returns : goal.returns
returns c = scripts_are_of_steps
