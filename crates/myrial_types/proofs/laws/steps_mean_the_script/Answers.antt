use Rattle.myrial_types.proofs.MeaningLemmas.{steps_mean_the_script}
use Rattle.myrial_types.proofs.laws.steps_mean_the_script.Goals as goal

pub returns : goal.returns
returns c = steps_mean_the_script
