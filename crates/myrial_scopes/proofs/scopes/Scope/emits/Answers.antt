use Rattle.std.proofs.Common.{◌∙◌, map, sym, refl}
use Rattle.std.proofs.lemmas.List.{map-append}
use Rattle.myrial_scopes.specs.Resolutions.{emit_of}
use Rattle.myrial_scopes.proofs.ScopeLemmas.{emits_of-next, emits_of-fault}
use Rattle.myrial_scopes.proofs.scopes.Scope.emits.Goals as goal

pub returns-in_default : goal.returns-in_default
returns-in_default c =
    let nothing = rw c.in_default.is at c.in_ok-columns.ensures in
    sym (emits_of-fault c.args.self.now c.args.items.now c.loop-item.item-index c.item-item.result c.loop-item-test.true c.item-item.is (sym nothing))

pub loop-item-preserved : goal.loop-item-preserved
loop-item-preserved c =
    let some = rw c.in-Some.is at c.in_ok-columns.ensures in
    emits_of-next c.args.self.now c.args.items.now c.loop-item.item-index c.item-item.result c.loop-item-test.true c.item-item.is
    (map emit_of c.loop-item.all.items) (map emit_of c.in-Some.columns.items) c.loop-item.invariant (sym some)
    ∙ rw (c.in_ok-append.ensures.items, map-append emit_of c.loop-item.all.items c.in-Some.columns.items) refl
