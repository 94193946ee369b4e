use Rattle.routed_joins.specs.Readings.{AreRisenBy}
use Rattle.routed_joins.proofs.readings.received_since.Given as goal

abbrev pub invariant-loop-worker : goal.invariant-loop-worker
invariant-loop-worker g l = AreRisenBy g.T.Tap.totals (λ t. t.got) l.worker l.since l.taps l.counts
