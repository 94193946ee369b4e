use Rattle.run_laws.proofs.MeantLemmas.{faults_are_of_steps}
use Rattle.run_laws.proofs.values.faults_are_of_steps.Goals as goal

pub returns : goal.returns
returns c = faults_are_of_steps
