use Rattle.std.proofs.Common.{◌≡◌, ◌∙◌, Some, None, sym, refl, ap, option_map}
use Rattle.rel_base.specs.Relations.{RelationState}
use Rattle.rel_base.proofs.EachLemmas.{each_or_none-fault_at, each_or_none-next}
use Rattle.myrial_meaning.specs.Meaning.{ItemRelation, item_relation}
use Rattle.myrial_meaning.proofs.environment.Environment.item_relations.Goals as goal

pub returns-in_default : goal.returns-in_default
returns-in_default c =
    let item = c.item-item.result in
    let none : item_relation c.args.files.now c.args.self.now item ≡ None =
    ap (option_map (λ (table : RelationState). let s : ItemRelation = record { alias = item.alias; table = table } in s)) (sym (rw c.in_default.is at c.operand.ensures)) in
    sym (each_or_none-fault_at (item_relation c.args.files.now c.args.self.now) c.args.items.now c.loop-item.item-index item c.loop-item-test.true c.item-item.is none)

pub loop-item-preserved : goal.loop-item-preserved
loop-item-preserved c =
    let item = c.item-item.result in
    let made : item_relation c.args.files.now c.args.self.now item ≡ Some c.over.result =
    ap (option_map (λ (table : RelationState). let s : ItemRelation = record { alias = item.alias; table = table } in s)) (sym c.in-Some.ensures)
    ∙ rw (← c.over.ensures.alias, ← c.over.ensures.table) refl in
    rw c.in_ok-push.ensures.items
    (each_or_none-next (item_relation c.args.files.now c.args.self.now) c.args.items.now c.loop-item.item-index item c.loop-item.sources.items c.over.result
    c.loop-item-test.true c.item-item.is c.loop-item.invariant made)
