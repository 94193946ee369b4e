use Rattle.run_laws.proofs.BagLemmas.{held_are_meant}
use Rattle.run_laws.proofs.scripts.held_are_meant.Goals as goal

pub returns : goal.returns
returns c = held_are_meant
