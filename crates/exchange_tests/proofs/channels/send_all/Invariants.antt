use Rattle.std.proofs.Common.{◌≡◌}
use Rattle.exchange_tests.proofs.channels.send_all.Given as goal

-- the outlet is that of the same sender of the same wiring
abbrev pub invariant-loop-batch : goal.invariant-loop-batch
invariant-loop-batch g l =
    (goal.iterator-loop-batch g).can_next l.batch-iterator × (goal.iterator-loop-batch g).is_finite l.batch-iterator
    × (l.outlet.wiring ≡ l.initial.outlet.wiring) × (l.outlet.sender ≡ l.initial.outlet.sender)
