use Rattle.std.proofs.Common.{◌≡◌, map, Ok}
use Rattle.keyed_terms.proofs.gathering.gather.Given as goal

abbrev pub invariant-loop-one : goal.invariant-loop-one
invariant-loop-one l = map Ok l.made ≡ l.yielded
