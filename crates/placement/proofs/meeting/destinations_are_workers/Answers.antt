use Rattle.placement.proofs.BalanceLemmas.{destinations_are_workers}
use Rattle.placement.proofs.meeting.destinations_are_workers.Goals as goal

pub returns : goal.returns
returns c = destinations_are_workers
