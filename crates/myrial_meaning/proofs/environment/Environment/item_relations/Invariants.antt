use Rattle.std.proofs.Common.{◌≡◌, Some, take}
use Rattle.rel_base.specs.Each.{each_or_none}
use Rattle.myrial_meaning.specs.Meaning.{item_relation}
use Rattle.myrial_meaning.proofs.environment.Environment.item_relations.Given as goal

abbrev pub invariant-loop-item : goal.invariant-loop-item
invariant-loop-item l = each_or_none (item_relation l.files l.self) (take l.item-index l.items) ≡ Some l.sources.items
