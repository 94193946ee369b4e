use Rattle.std.proofs.Common.{◌≡◌, ◌+◌, ◌<◌, ◌∷◌, ◌++◌, [], List, length, take, ap, sym, ◌∙◌, subst, arith}
use Rattle.std.proofs.lemmas.Grind.{common_steps}
use Rattle.std.proofs.lemmas.List.{take_more}
use Rattle.rel_base.specs.declared.values.Value.{Value}
use Rattle.word_table.specs.inner.Unlike.{parts_in, AreUnlike}
use Rattle.word_table.proofs.unlike.UnlikeParts.of.Goals as goal

pub loop-place-preserved : goal.loop-place-preserved
loop-place-preserved c =
    let parts = c.args.parts.now in
    let widths = c.args.widths.now in
    let place = c.loop-place.place in
    let new = c.add.new.self in
    let there : place < length parts = omega arith in
    let as_wide : place < length widths = omega (arith, c.requires) in
    let rows : take (place + 1) parts ≡ take place parts ++ c.index-parts-place.result ∷ [] =
    take_more parts place c.index-parts-place.result there ∙ ap (λ (r : List (List Value)). take place parts ++ r ∷ []) (sym c.index-parts-place.is) in
    subst (λ ps. AreUnlike ps (take (place + 1) widths) (parts_in new.parts.items) new.widths.items new.places.items) (sym rows)
    (subst (λ ws. AreUnlike (take place parts ++ c.index-parts-place.result ∷ []) ws (parts_in new.parts.items) new.widths.items new.places.items) (sym (take_more widths place 0 as_wide))
    (c.in_ok-add.ensures (take place parts) (take place widths) c.loop-place.invariant))

pub returns : goal.returns
returns c = grind (arith, common_steps)
