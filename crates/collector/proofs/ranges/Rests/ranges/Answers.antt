use Rattle.std.proofs.Common.{arith}
use Rattle.std.proofs.lemmas.Grind.{common_steps}
use Rattle.collector.proofs.ranges.Rests.ranges.Goals as goal

pub loop-splitter-preserved : goal.loop-splitter-preserved
loop-splitter-preserved c = grind (arith, common_steps)

pub returns : goal.returns
returns c = grind (arith, common_steps)
