use Rattle.placement.proofs.ReceivedLemmas.{cells_list_what_they_are_given}
use Rattle.placement.proofs.receiving.cells_list_what_they_are_given.Goals as goal

pub returns : goal.returns
returns c = cells_list_what_they_are_given
