use Rattle.placement.proofs.KeptLemmas.{candidates_are_kept}
use Rattle.placement.proofs.meeting.candidates_are_kept.Goals as goal

pub returns : goal.returns
returns c = candidates_are_kept
