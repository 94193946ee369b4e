use Rattle.std.proofs.Common.{arith}
use Rattle.std.proofs.lemmas.Grind.{common_steps}
use Rattle.exchange_channels.proofs.intakes.Intake.drain.Goals as goal

pub loop-preserved : goal.loop-preserved
loop-preserved g c = grind (arith, common_steps)

pub loop-init : goal.loop-init
loop-init g c = grind (arith, common_steps)

pub invariant_of-end : goal.invariant_of-end
invariant_of-end g c = grind (arith, common_steps)

pub returns-then-has_each_end-clause-drained : goal.returns-then-has_each_end-clause-drained
returns-then-has_each_end-clause-drained g c = grind (arith, common_steps)

pub returns-then-has_each_end-clause-same : goal.returns-then-has_each_end-clause-same
returns-then-has_each_end-clause-same g c = grind (arith, common_steps)

pub returns-then-has_each_end-clause-tap : goal.returns-then-has_each_end-clause-tap
returns-then-has_each_end-clause-tap g c = grind (arith, common_steps)

pub returns-then-has_each_end-clause-ends : goal.returns-then-has_each_end-clause-ends
returns-then-has_each_end-clause-ends g c = grind (arith, common_steps)
