use Rattle.run_laws.proofs.TypeLemmas.{meant_are_placed}
use Rattle.run_laws.proofs.values.meant_are_placed.Goals as goal

pub returns : goal.returns
returns c = meant_are_placed
