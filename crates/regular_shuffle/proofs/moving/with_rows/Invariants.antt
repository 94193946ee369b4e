use Rattle.std.proofs.Common.{◌≡◌, ◌++◌, reverse, length, set}
use Rattle.regular_shuffle.proofs.moving.with_rows.Given as goal

abbrev pub invariant-loop-present : goal.invariant-loop-present
invariant-loop-present l = set l.parts l.atom l.rows ++ reverse l.backwards.items ≡ set l.fn.parts l.atom l.rows

abbrev pub decreases-loop-present : goal.decreases-loop-present
decreases-loop-present l = length l.parts
