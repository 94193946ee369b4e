-- the ranges so far and what is left are all rows
use Rattle.std.proofs.Common.{◌≡◌, ◌++◌}
use Rattle.rel_base.specs.Picks.{joined}
use Rattle.collector.proofs.ranges.Rests.ranges.Given as goal

abbrev pub invariant-loop-splitter : goal.invariant-loop-splitter
invariant-loop-splitter l = joined l.ranges.items ++ l.left ≡ l.fn.self
