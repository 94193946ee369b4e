use Rattle.std.proofs.Common.{arith}
use Rattle.std.proofs.lemmas.Grind.{common_steps}
use Rattle.myrial_scopes.proofs.items.ItemSchema.with_own.Goals as goal

pub returns-then-is_under-2 : goal.returns-then-is_under-2
returns-then-is_under-2 c = grind (arith, common_steps)
