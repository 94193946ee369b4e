-- the rows of the parts so far
use Rattle.std.proofs.Common.{◌≡◌, take}
use Rattle.rel_base.specs.Picks.{joined}
use Rattle.collector.proofs.collecting.put_together.Given as goal

abbrev pub invariant-loop-part : goal.invariant-loop-part
invariant-loop-part l = l.rows ≡ joined (take l.part-index l.parts)
