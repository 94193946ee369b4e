use Rattle.placement.proofs.MeetingLemmas.{candidates_meet_at_one_cell}
use Rattle.placement.proofs.meeting.candidates_meet_at_one_cell.Goals as goal

pub returns : goal.returns
returns c = candidates_meet_at_one_cell
