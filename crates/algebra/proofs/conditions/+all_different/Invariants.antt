-- what is left
use Rattle.std.proofs.Common.{length}
use Rattle.algebra.proofs.conditions.+all_different.Given as goal

abbrev pub decreases-all_different : goal.decreases-all_different
decreases-all_different l = length l.numbers.now
