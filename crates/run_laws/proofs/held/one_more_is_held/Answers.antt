use Rattle.run_laws.proofs.LoopLemmas.{one_more_is_held}
use Rattle.run_laws.proofs.held.one_more_is_held.Goals as goal

pub returns : goal.returns
returns c = one_more_is_held
