use Rattle.run_laws.proofs.NeededLemmas.{stores_are_over_needed}
use Rattle.run_laws.proofs.values.stores_are_over_needed.Goals as goal

pub returns : goal.returns
returns c = stores_are_over_needed
