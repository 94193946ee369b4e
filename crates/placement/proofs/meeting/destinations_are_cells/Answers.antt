use Rattle.placement.proofs.MeetingLemmas.{destinations_are_cells}
use Rattle.placement.proofs.meeting.destinations_are_cells.Goals as goal

pub returns : goal.returns
returns c = destinations_are_cells
