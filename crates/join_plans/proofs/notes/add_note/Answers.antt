use Rattle.std.proofs.Common.{arith}
use Rattle.join_plans.proofs.notes.add_note.Goals as goal

pub push-requires : goal.push-requires
push-requires c = omega (arith, c.len.type_inv, c.len.ensures)
