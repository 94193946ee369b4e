use Rattle.run_laws.proofs.ScriptLemmas.{faults_are_first}
use Rattle.run_laws.proofs.scripts.faults_are_first.Goals as goal

pub returns : goal.returns
returns c = faults_are_first
