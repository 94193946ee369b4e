use Rattle.std.proofs.Common.{◌≡◌, take}
use Rattle.collector.proofs.ranges.Rests.of.Given as goal

abbrev pub invariant-loop-part : goal.invariant-loop-part
invariant-loop-part l = l.rests.items ≡ take l.part-index l.parts
