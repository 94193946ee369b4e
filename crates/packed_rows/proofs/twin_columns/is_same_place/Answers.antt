use Rattle.std.proofs.Common.{arith}
use Rattle.std.proofs.lemmas.Grind.{common_steps}
use Rattle.packed_rows.proofs.twin_columns.is_same_place.Goals as goal

pub returns-in-At-At : goal.returns-in-At-At
returns-in-At-At c = grind (arith, common_steps)
