use Rattle.std.proofs.Common.{arith}
use Rattle.std.proofs.lemmas.Grind.{common_steps}
use Rattle.fragmenter.proofs.fitting.is_choice_for.Goals as goal

pub returns-then-choice-statement : goal.returns-then-choice-statement
returns-then-choice-statement c = grind (arith, common_steps)
