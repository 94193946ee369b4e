use Rattle.placement.proofs.ReceivedLemmas.{groups_are_merged}
use Rattle.placement.proofs.receiving.groups_are_merged.Goals as goal

pub returns : goal.returns
returns c = groups_are_merged
