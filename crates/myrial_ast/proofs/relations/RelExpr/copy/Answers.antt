use Rattle.std.proofs.Common.{arith}
use Rattle.std.proofs.lemmas.Grind.{common_steps}
use Rattle.myrial_ast.proofs.relations.RelExpr.copy.Goals as goal

pub returns-in_ok-copy-in-Copy : goal.returns-in_ok-copy-in-Copy
returns-in_ok-copy-in-Copy c = grind (arith, common_steps)

pub returns-in_ok-copy-in-Empty : goal.returns-in_ok-copy-in-Empty
returns-in_ok-copy-in-Empty c = grind (arith, common_steps)

pub returns-in_ok-copy-in-Distinct : goal.returns-in_ok-copy-in-Distinct
returns-in_ok-copy-in-Distinct c = grind (arith, common_steps)

pub returns-in_ok-copy-in-UnionAll : goal.returns-in_ok-copy-in-UnionAll
returns-in_ok-copy-in-UnionAll c = grind (arith, common_steps)

pub returns-in_ok-copy-in-Diff : goal.returns-in_ok-copy-in-Diff
returns-in_ok-copy-in-Diff c = grind (arith, common_steps)

pub returns-in_ok-copy_of_emits-in-From : goal.returns-in_ok-copy_of_emits-in-From
returns-in_ok-copy_of_emits-in-From c = grind (arith, common_steps)
