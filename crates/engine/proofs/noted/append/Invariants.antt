use Rattle.std.proofs.Common.{◌≡◌, ◌++◌, length, reverse, vec_len}
use Rattle.engine.proofs.noted.append.Given as goal

abbrev pub invariant-loop-item : goal.invariant-loop-item
invariant-loop-item g l = l.more ++ reverse l.backwards.items ≡ l.fn.more

abbrev pub decreases-loop-item : goal.decreases-loop-item
decreases-loop-item g l = length l.more

abbrev pub invariant-loop-item-2 : goal.invariant-loop-item-2
invariant-loop-item-2 g l = l.list ++ reverse l.backwards.items ≡ l.fn.list ++ l.fn.more

abbrev pub decreases-loop-item-2 : goal.decreases-loop-item-2
decreases-loop-item-2 g l = vec_len l.backwards
