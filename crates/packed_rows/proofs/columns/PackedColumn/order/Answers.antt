use Rattle.std.proofs.Common.{arith}
use Rattle.std.proofs.lemmas.Grind.{common_steps}
use Rattle.packed_rows.proofs.columns.PackedColumn.order.Goals as goal

pub returns : goal.returns
returns c = grind (arith, common_steps)
