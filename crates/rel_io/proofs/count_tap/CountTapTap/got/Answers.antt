use Rattle.std.proofs.Common.{arith}
use Rattle.std.proofs.lemmas.Grind.{common_steps}
use Rattle.rel_io.proofs.count_tap.CountTapTap.got.Goals as goal

pub returns-clause-totals : goal.returns-clause-totals
returns-clause-totals c = grind (arith, common_steps)
