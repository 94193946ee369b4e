use Rattle.std.proofs.Common.{arith}
use Rattle.std.proofs.lemmas.Grind.{common_steps}
use Rattle.rel_io.proofs.count_tap.CountTapTap.sent.Goals as goal

pub returns-clause-tag : goal.returns-clause-tag
returns-clause-tag c = grind (arith, common_steps)
