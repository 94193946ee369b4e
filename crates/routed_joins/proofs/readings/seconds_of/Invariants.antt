use Rattle.routed_joins.specs.Readings.{AreSeconds}
use Rattle.routed_joins.proofs.readings.seconds_of.Given as goal

abbrev pub invariant-loop-worker : goal.invariant-loop-worker
invariant-loop-worker g l = AreSeconds g.T.Tap.totals l.worker l.taps l.made.items
