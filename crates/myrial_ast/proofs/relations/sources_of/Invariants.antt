-- the sources of the items so far
use Rattle.std.proofs.Common.{◌≡◌, map, take}
use Rattle.myrial_ast.specs.declared.relations.FromItem.{FromItem}
use Rattle.myrial_ast.proofs.relations.sources_of.Given as goal

abbrev pub invariant-loop-item : goal.invariant-loop-item
invariant-loop-item l = map (λ o. o.now) l.sources.items ≡ map (λ (item : FromItem). item.source) (take l.item-index l.items)
