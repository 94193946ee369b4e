use Rattle.std.proofs.Common.{◌≡◌, ◌++◌, length, reverse}
use Rattle.keyed_terms.proofs.making.taken_apart.Given as goal

abbrev pub invariant-loop-rows : goal.invariant-loop-rows
invariant-loop-rows l = l.parts ++ reverse l.own.items ≡ l.fn.parts

abbrev pub decreases-loop-rows : goal.decreases-loop-rows
decreases-loop-rows l = length l.parts
