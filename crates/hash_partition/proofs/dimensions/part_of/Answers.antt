use Rattle.std.proofs.Common.{arith}
use Rattle.std.proofs.lemmas.Grind.{common_steps}
use Rattle.hash_partition.proofs.dimensions.part_of.Goals as goal

pub returns : goal.returns
returns c = grind (arith, common_steps)
