use Rattle.std.proofs.Common.{arith}
use Rattle.std.proofs.lemmas.Grind.{common_steps}
use Rattle.fragmenter.proofs.noting.shares_behind.Goals as goal

pub returns-in-Statement : goal.returns-in-Statement
returns-in-Statement c = grind (arith, common_steps)
