use Rattle.std.proofs.Common.{◌≡◌, ◌++◌, [], get_or}
use Rattle.placement.specs.Layouts.{by_worker}
use Rattle.keyed_terms.proofs.unions.union_parts.Given as goal

abbrev pub invariant-loop-worker : goal.invariant-loop-worker
invariant-loop-worker l = l.made ≡ by_worker l.worker (λ w. get_or l.left w [] ++ get_or l.right w [])
