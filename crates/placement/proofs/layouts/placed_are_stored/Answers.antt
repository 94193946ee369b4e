use Rattle.placement.proofs.StoredLemmas.{placed_are_stored}
use Rattle.placement.proofs.layouts.placed_are_stored.Goals as goal

pub returns : goal.returns
returns c = placed_are_stored
