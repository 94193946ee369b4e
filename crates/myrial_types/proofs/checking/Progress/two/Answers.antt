use Rattle.std.proofs.Common.{arith}
use Rattle.std.proofs.lemmas.Grind.{common_steps}
use Rattle.myrial_types.proofs.checking.Progress.two.Goals as goal

pub returns-clause-typed : goal.returns-clause-typed
returns-clause-typed c = grind (arith, common_steps)

pub returns-clause-sound : goal.returns-clause-sound
returns-clause-sound c = grind (arith, common_steps)

pub returns-clause-fault : goal.returns-clause-fault
returns-clause-fault c = grind (arith, common_steps)
