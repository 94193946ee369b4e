use Rattle.std.proofs.Common.{arith}
use Rattle.std.proofs.lemmas.Grind.{common_steps}
use Rattle.join_plans.proofs.notes.join_notes.Goals as goal

pub returns : goal.returns
returns c = grind (arith, common_steps)
