use Rattle.std.proofs.Common.{◌≡◌, map, take}
use Rattle.engine.specs.inner.Held.{parts_held}
use Rattle.engine.proofs.held.Held.parts_of_each.Given as goal

abbrev pub invariant-loop-source : goal.invariant-loop-source
invariant-loop-source l = l.made ≡ map (parts_held l.self) (take l.source-index l.sources)
