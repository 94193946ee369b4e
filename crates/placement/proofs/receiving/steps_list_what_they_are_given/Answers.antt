use Rattle.placement.proofs.ReceivedLemmas.{steps_list_what_they_are_given}
use Rattle.placement.proofs.receiving.steps_list_what_they_are_given.Goals as goal

pub returns : goal.returns
returns c = steps_list_what_they_are_given
