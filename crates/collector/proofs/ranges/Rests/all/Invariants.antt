use Rattle.std.proofs.Common.{◌≡◌}
use Rattle.collector.proofs.ranges.Rests.all.Given as goal

abbrev pub invariant-loop-rest : goal.invariant-loop-rest
invariant-loop-rest l = l.runs.items ≡ l.yielded
