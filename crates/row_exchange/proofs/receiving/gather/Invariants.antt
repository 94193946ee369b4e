use Rattle.std.proofs.Common.{length}
use Rattle.row_exchange.specs.inner.Stations.{AreGatheredBut}
use Rattle.row_exchange.proofs.receiving.gather.Given as goal

abbrev pub invariant-loop-batch : goal.invariant-loop-batch
invariant-loop-batch l = AreGatheredBut l.atoms l.fn.drained l.left.items l.gathered.items

abbrev pub decreases-loop-batch : goal.decreases-loop-batch
decreases-loop-batch l = length l.left.items
