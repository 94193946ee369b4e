use Rattle.std.proofs.Common.{arith}
use Rattle.std.proofs.lemmas.Grind.{common_steps}
use Rattle.myrial_ast.proofs.expressions.Expr.+copy.Goals as goal

pub returns-in_ok-copy-in-Lit : goal.returns-in_ok-copy-in-Lit
returns-in_ok-copy-in-Lit t c = grind (arith, common_steps)

pub returns-in_ok-copy-in-Col : goal.returns-in_ok-copy-in-Col
returns-in_ok-copy-in-Col t c = grind (arith, common_steps)

pub returns-in_ok-copy-in-Not : goal.returns-in_ok-copy-in-Not
returns-in_ok-copy-in-Not t c = grind (arith, common_steps)

pub returns-in_ok-copy-in-Neg : goal.returns-in_ok-copy-in-Neg
returns-in_ok-copy-in-Neg t c = grind (arith, common_steps)

pub returns-in_ok-copy-in-Bin : goal.returns-in_ok-copy-in-Bin
returns-in_ok-copy-in-Bin t c = grind (arith, common_steps)
