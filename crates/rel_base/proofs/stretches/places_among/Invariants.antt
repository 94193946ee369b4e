use Rattle.std.proofs.Common.{◌≡◌, ◌-◌, ◌++◌, take, drop, map, get_or}
use Rattle.rel_base.proofs.stretches.places_among.Given as goal

abbrev pub invariant-loop-place : goal.invariant-loop-place
invariant-loop-place l = l.place-items ≡ map (λ n. get_or l.among (n - l.first) 0) (take l.place-index l.numbers) ++ drop l.place-index l.numbers
