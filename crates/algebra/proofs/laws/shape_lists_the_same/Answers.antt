use Rattle.algebra.proofs.PrefixLemmas.{shape_lists_the_same}
use Rattle.algebra.proofs.laws.shape_lists_the_same.Goals as goal

pub returns : goal.returns
returns c = shape_lists_the_same
