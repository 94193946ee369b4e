use Rattle.std.proofs.Common.{◌≡◌, ◌+◌, ◌-◌, ◌*◌, ◌++◌, take, drop, map}
use Rattle.rel_base.proofs.stretches.places_by_step.Given as goal

abbrev pub invariant-loop-place : goal.invariant-loop-place
invariant-loop-place l = l.place-items ≡ map (λ n. l.start + l.step * (n - l.first)) (take l.place-index l.numbers) ++ drop l.place-index l.numbers
