use Rattle.std.proofs.Common.{arith}
use Rattle.std.proofs.lemmas.Grind.{common_steps}
use Rattle.fragmenter.proofs.stages.ends_of_term.Goals as goal

pub returns-in_ok-push-in-Group : goal.returns-in_ok-push-in-Group
returns-in_ok-push-in-Group c = grind (arith, common_steps)
