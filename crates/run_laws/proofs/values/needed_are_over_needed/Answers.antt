use Rattle.run_laws.proofs.NeededLemmas.{needed_are_over_needed}
use Rattle.run_laws.proofs.values.needed_are_over_needed.Goals as goal

pub returns : goal.returns
returns c = needed_are_over_needed
