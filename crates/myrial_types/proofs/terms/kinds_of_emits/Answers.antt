use Rattle.std.proofs.Common.{arith}
use Rattle.std.proofs.lemmas.Grind.{common_steps}
use Rattle.myrial_types.proofs.terms.kinds_of_emits.Goals as goal

pub loop-emit-preserved : goal.loop-emit-preserved
loop-emit-preserved c = grind (arith, common_steps)
