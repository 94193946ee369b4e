use Rattle.myrial_types.proofs.FormedLemmas.{steps_are_of_the_files}
use Rattle.myrial_types.proofs.laws.steps_are_of_the_files.Goals as goal

pub returns : goal.returns
returns c = steps_are_of_the_files
