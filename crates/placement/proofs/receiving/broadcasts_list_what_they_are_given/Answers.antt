use Rattle.placement.proofs.BroadcastLemmas.{broadcasts_list_what_they_are_given}
use Rattle.placement.proofs.receiving.broadcasts_list_what_they_are_given.Goals as goal

pub returns : goal.returns
returns c = broadcasts_list_what_they_are_given
