use Rattle.std.proofs.Common.{arith}
use Rattle.std.proofs.lemmas.Grind.{common_steps}
use Rattle.myrial_scopes.proofs.meanings.Meaning.with.Goals as goal

pub returns-in-One : goal.returns-in-One
returns-in-One c = grind (arith, common_steps)
