use Rattle.algebra.proofs.PrefixLemmas.{shape_faults_the_same}
use Rattle.algebra.proofs.laws.shape_faults_the_same.Goals as goal

pub returns : goal.returns
returns c = shape_faults_the_same
