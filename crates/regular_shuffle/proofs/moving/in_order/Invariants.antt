use Rattle.std.proofs.Common.{◌≡◌, ◌++◌, reverse, vec_len}
use Rattle.regular_shuffle.proofs.moving.in_order.Given as goal

abbrev pub invariant-loop-item : goal.invariant-loop-item
invariant-loop-item g l = l.made ++ reverse l.backwards.items ≡ reverse l.fn.backwards.items

abbrev pub decreases-loop-item : goal.decreases-loop-item
decreases-loop-item g l = vec_len l.backwards
