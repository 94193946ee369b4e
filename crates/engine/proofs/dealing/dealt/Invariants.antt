use Rattle.std.proofs.Common.{◌≡◌, map}
use Rattle.std.specs.List.{range_with_len}
use Rattle.rel_base.specs.Picks.{every_nth}
use Rattle.engine.proofs.dealing.dealt.Given as goal

abbrev pub invariant-loop-worker : goal.invariant-loop-worker
invariant-loop-worker l = l.made ≡ map (λ w. every_nth l.relation.rows l.workers w) (range_with_len 0 l.worker)
