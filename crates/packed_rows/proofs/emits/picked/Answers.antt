use Rattle.std.proofs.Common.{arith}
use Rattle.std.proofs.lemmas.Grind.{common_steps}
use Rattle.packed_rows.proofs.emits.picked.Goals as goal

pub returns-in-At : goal.returns-in-At
returns-in-At c = grind (arith, common_steps)

pub returns-in-Lit : goal.returns-in-Lit
returns-in-Lit c = grind (arith, common_steps)
