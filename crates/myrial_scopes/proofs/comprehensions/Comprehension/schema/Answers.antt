use Rattle.std.proofs.Common.{◌≡◌, ◌∙◌, ◌++◌, ◌∷◌, [], ◌<◌, ◌≤◌, length, map, take, sym, ap, unwrap_or}
use Rattle.std.proofs.lemmas.List.{take_all}
use Rattle.rel_base.specs.declared.relations.Column.{Column}
use Rattle.myrial_scopes.specs.Emits.{numbered_name, schema_of}
use Rattle.myrial_scopes.specs.Resolutions.{emit_of}
use Rattle.myrial_scopes.proofs.ScopeLemmas.{schema_of-more}
use Rattle.myrial_scopes.proofs.comprehensions.Comprehension.schema.Goals as goal

pub loop-place-preserved : goal.loop-place-preserved
loop-place-preserved c =
    let emits = c.args.self.now.emits.items in
    let i = c.loop-place.place in
    let items = c.deref-emitted-items.ensures.value in
    let low : i < length emits = rw items at c.loop-place-test.true in
    let more = schema_of-more emits i c.emitted-item.result low (rw items at c.emitted-item.is) in
    let column : c.in_ok-column.column ≡ record { name = unwrap_or c.emitted-item.result.name (numbered_name i); kind = c.emitted-item.result.kind } =
    λ j. record { name = c.in_ok-column.ensures.name j; kind = c.in_ok-column.ensures.kind j } in
    c.in_ok-push.ensures.ok
    ∙ (ap (λ schema. schema ++ c.in_ok-column.column ∷ []) c.loop-place.invariant
    ∙ (ap (λ (last : Column). schema_of (map emit_of (take i emits)) ++ last ∷ []) column ∙ sym more))

pub returns : goal.returns
returns c =
    let emits = c.args.self.now.emits.items in
    let past : length emits ≤ c.loop-place.place = rw c.deref-emitted-items.ensures.value at c.loop-place-test.false in
    c.loop-place.invariant ∙ ap (λ columns. schema_of (map emit_of columns)) (take_all c.loop-place.place emits past)
