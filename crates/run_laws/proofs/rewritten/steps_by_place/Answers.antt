use Rattle.run_laws.proofs.RewrittenLemmas.{steps_by_place}
use Rattle.run_laws.proofs.rewritten.steps_by_place.Goals as goal

pub returns : goal.returns
returns c = steps_by_place
