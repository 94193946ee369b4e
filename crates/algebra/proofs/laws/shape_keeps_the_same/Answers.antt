use Rattle.algebra.proofs.PrefixLemmas.{shape_keeps_the_same}
use Rattle.algebra.proofs.laws.shape_keeps_the_same.Goals as goal

pub returns : goal.returns
returns c = shape_keeps_the_same
