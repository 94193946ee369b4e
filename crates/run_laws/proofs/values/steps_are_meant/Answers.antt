use Rattle.run_laws.proofs.MeantLemmas.{steps_are_meant}
use Rattle.run_laws.proofs.values.steps_are_meant.Goals as goal

pub returns : goal.returns
returns c = steps_are_meant
