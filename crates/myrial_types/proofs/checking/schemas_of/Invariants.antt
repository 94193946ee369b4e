-- the schemas of the items so far
use Rattle.std.proofs.Common.{◌≡◌, take}
use Rattle.myrial_types.specs.Resolving.{schemas_of}
use Rattle.myrial_types.proofs.checking.schemas_of.Given as goal

abbrev pub invariant-loop-item : goal.invariant-loop-item
invariant-loop-item l = l.schemas.items ≡ schemas_of (take l.item-index l.items)
