use Rattle.std.proofs.Common.{arith}
use Rattle.hash_partition.proofs.KeyLemmas.{mixed_more}
use Rattle.hash_partition.proofs.hashing.key_code.Goals as goal

pub loop-column-preserved : goal.loop-column-preserved
loop-column-preserved c = grind (arith, mixed_more)
