-- the sources of the items so far
use Rattle.std.proofs.Common.{◌≡◌, take}
use Rattle.myrial_types.specs.Resolving.{sources_of}
use Rattle.myrial_types.proofs.terms.sources_of.Given as goal

abbrev pub invariant-loop-item : goal.invariant-loop-item
invariant-loop-item l = l.sources ≡ sources_of (take l.item-index l.items)
