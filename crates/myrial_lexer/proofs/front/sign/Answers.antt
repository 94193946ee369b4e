use Rattle.std.proofs.Common.{arith}
use Rattle.std.proofs.lemmas.Grind.{common_steps}
use Rattle.myrial_lexer.proofs.front.sign.Goals as goal

pub returns-in-60-eq62-clause-value : goal.returns-in-60-eq62-clause-value
returns-in-60-eq62-clause-value c = grind (arith, common_steps)
