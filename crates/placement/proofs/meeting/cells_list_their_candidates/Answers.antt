use Rattle.placement.proofs.CellLemmas.{cells_list_their_candidates}
use Rattle.placement.proofs.meeting.cells_list_their_candidates.Goals as goal

pub returns : goal.returns
returns c = cells_list_their_candidates
