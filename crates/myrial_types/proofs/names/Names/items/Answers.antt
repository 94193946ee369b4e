use Rattle.std.proofs.Common.{◌≡◌, ◌∙◌, Some, None, sym, refl, ap, option_map}
use Rattle.rel_base.proofs.EachLemmas.{each_or_none-fault_at, each_or_none-next}
use Rattle.myrial_types.specs.Resolving.{Meant, MeantItem, item_meant}
use Rattle.myrial_types.proofs.names.Names.items.Goals as goal

pub returns-in_default : goal.returns-in_default
returns-in_default c =
    let item = c.item-item.result in
    let none : item_meant c.args.files.now c.args.self.now item ≡ None =
    ap (option_map (λ (m : Meant). let i : MeantItem = record { alias = item.alias; meant = m } in i)) (sym (rw c.in_default.is at c.meant.ensures)) in
    sym (each_or_none-fault_at (item_meant c.args.files.now c.args.self.now) c.args.items.now c.loop-item.item-index item c.loop-item-test.true c.item-item.is none)

pub loop-item-preserved : goal.loop-item-preserved
loop-item-preserved c =
    let item = c.item-item.result in
    let made : item_meant c.args.files.now c.args.self.now item ≡ Some c.of.result =
    ap (option_map (λ (m : Meant). let i : MeantItem = record { alias = item.alias; meant = m } in i)) (sym c.in-Some.ensures)
    ∙ rw (← c.of.ensures.alias, ← c.of.ensures.meant) refl in
    rw c.in_ok-push.ensures.items
    (each_or_none-next (item_meant c.args.files.now c.args.self.now) c.args.items.now c.loop-item.item-index item c.loop-item.found.items c.of.result
    c.loop-item-test.true c.item-item.is c.loop-item.invariant made)
