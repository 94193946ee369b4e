use Rattle.placement.proofs.ListingLemmas.{parts_are_listed}
use Rattle.placement.proofs.receiving.parts_are_listed.Goals as goal

pub returns : goal.returns
returns c = parts_are_listed
