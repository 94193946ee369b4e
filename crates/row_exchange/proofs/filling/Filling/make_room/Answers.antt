use Rattle.std.proofs.Common.{arith}
use Rattle.std.proofs.lemmas.Grind.{common_steps}
use Rattle.row_exchange.proofs.filling.Filling.make_room.Goals as goal

pub returns-then-len-self-clause-room : goal.returns-then-len-self-clause-room
returns-then-len-self-clause-room c = grind (arith, common_steps)

pub flush-requires-clause-some : goal.flush-requires-clause-some
flush-requires-clause-some c = grind (arith, common_steps)
