use Rattle.std.proofs.Common.{arith}
use Rattle.std.proofs.lemmas.Grind.{common_steps}
use Rattle.myrial_types.proofs.ReadingLemmas.{faults_of_next}
use Rattle.myrial_types.proofs.kinds.faults_in.Goals as goal

pub loop-emit-preserved : goal.loop-emit-preserved
loop-emit-preserved c = grind (arith, common_steps, faults_of_next)
