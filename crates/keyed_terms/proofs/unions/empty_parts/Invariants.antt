use Rattle.std.proofs.Common.{◌≡◌, []}
use Rattle.placement.specs.Layouts.{by_worker}
use Rattle.keyed_terms.proofs.unions.empty_parts.Given as goal

abbrev pub invariant-loop-worker : goal.invariant-loop-worker
invariant-loop-worker l = l.made ≡ by_worker l._worker (λ w. [])
