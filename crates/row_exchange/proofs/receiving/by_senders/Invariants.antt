use Rattle.std.proofs.Common.{length, ◌++◌}
use Rattle.std.specs.Prelude.{IsPermutation}
use Rattle.row_exchange.proofs.receiving.by_senders.Given as goal

abbrev pub invariant-loop-one : goal.invariant-loop-one
invariant-loop-one l = IsPermutation l.fn.drained (l.drained ++ l.taken.items)

abbrev pub decreases-loop-one : goal.decreases-loop-one
decreases-loop-one l = length l.drained
