use Rattle.std.proofs.Common.{arith}
use Rattle.std.proofs.lemmas.Grind.{common_steps}
use Rattle.fragmenter.proofs.stages.ends_of_join.Goals as goal

pub returns-in_ok-vec-in-Br : goal.returns-in_ok-vec-in-Br
returns-in_ok-vec-in-Br c = grind (arith, common_steps)
