use Rattle.placement.proofs.JoinedLemmas.{joined_take_part}
use Rattle.placement.proofs.layouts.joined_take_part.Goals as goal

pub returns : goal.returns
returns c = joined_take_part
