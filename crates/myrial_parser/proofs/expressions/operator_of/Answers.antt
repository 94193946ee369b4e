use Rattle.std.proofs.Common.{arith}
use Rattle.std.proofs.lemmas.Grind.{common_steps}
use Rattle.myrial_parser.proofs.expressions.operator_of.Goals as goal

pub returns-in-Keyword-Or : goal.returns-in-Keyword-Or
returns-in-Keyword-Or c = grind (arith, common_steps)

pub returns-in_default : goal.returns-in_default
returns-in_default c = grind (arith, common_steps)

pub returns-in-Keyword-And : goal.returns-in-Keyword-And
returns-in-Keyword-And c = grind (arith, common_steps)

pub returns-in_default-symbol : goal.returns-in_default-symbol
returns-in_default-symbol c = grind (arith, common_steps)
