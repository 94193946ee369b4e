use Rattle.std.proofs.Common.{◌≡◌, ◌+◌, ◌<◌, ◌∷◌, ◌++◌, [], List, All, length, get_or, take, ap, ◌∙◌, sym, subst, arith, append-nil}
use Rattle.std.proofs.lemmas.Grind.{common_steps}
use Rattle.std.specs.Borrow.{Bor}
use Rattle.std.proofs.lemmas.List.{take_more}
use Rattle.std.proofs.lemmas.List.Concat.{flat_map-append, flat_map-cons}
use Rattle.rel_base.specs.declared.values.Value.{Value}
use Rattle.rel_base.specs.declared.rows.Rows.{Rows}
use Rattle.word_table.specs.Words.{strings_of_rows, strings_in}
use Rattle.word_table.specs.inner.Gathered.{AddsStrings, AreGathered, IsGatheredPart}
use Rattle.word_table.specs.inner.Unlike.{parts_in}
use Rattle.word_table.proofs.GatherLemmas.{AddsStrings-more, AreGathered-more}
use Rattle.word_table.proofs.UnlikeLemmas.{parts-many, part_at}
use Rattle.word_table.proofs.occurrences.Gathered.of_parts.Goals as goal

pub of_rows-requires : goal.of_rows-requires
of_rows-requires c =
    let place = c.loop-place.place in
    let parts = parts_in c.args.parts.now in
    let many = parts-many c.args.parts.now in
    let is : c.index-parts-place.result.now ≡ get_or parts place [] =
    ap (λ (rows : Bor Rows). rows.now) c.index-parts-place.is ∙ sym (part_at c.args.parts.now place c.index-parts-place.result (omega arith)) in
    subst (All (λ row. length row ≡ get_or c.args.widths.now place 0)) (sym is) (c.requires.each place (omega arith))

pub loop-place-preserved : goal.loop-place-preserved
loop-place-preserved c =
    let place = c.loop-place.place in
    let parts = parts_in c.args.parts.now in
    let many = parts-many c.args.parts.now in
    let rows : List (List Value) = c.index-parts-place.result.now in
    let width = get_or c.args.widths.now place 0 in
    let old = c.loop-place.strings.found.items in
    let later = c.of_rows.new.strings.found.items in
    let part = c.in_ok-part.part in
    let there : place < length parts = omega arith in
    let is : rows ≡ get_or parts place [] =
    ap (λ (rows : Bor Rows). rows.now) c.index-parts-place.is ∙ sym (part_at c.args.parts.now place c.index-parts-place.result (omega arith)) in
    let so_far : strings_in (take (place + 1) parts) ≡ strings_in (take place parts) ++ strings_of_rows rows =
    ap strings_in (take_more parts place [] there)
    ∙ flat_map-append strings_of_rows (take place parts) (get_or parts place [] ∷ [])
    ∙ ap (λ l. strings_in (take place parts) ++ l) (flat_map-cons strings_of_rows (get_or parts place []) [] ∙ append-nil (strings_of_rows (get_or parts place [])) ∙ ap strings_of_rows (sym is)) in
    let added : AddsStrings old later (strings_of_rows rows) = c.in_ok-part.ensures.strings in
    record {
      strings = subst (AddsStrings [] later) (sym so_far)
          (AddsStrings-more [] old later (strings_in (take place parts)) (strings_of_rows rows) c.loop-place.invariant.strings added);
      gathered = subst (λ gathered. AreGathered c.args.widths.now (take (place + 1) parts) gathered later) (sym c.in_ok-push.ensures.items)
          (AreGathered-more c.args.widths.now parts place c.loop-place.columns.items part old later (strings_of_rows rows) there added
          (subst (λ rs. IsGatheredPart rs width part later) is c.in_ok-part.ensures.gathered) c.loop-place.invariant.gathered);
    }

pub bounds-widths-place : goal.bounds-widths-place
bounds-widths-place c = grind (arith, common_steps)

pub returns-clause-strings : goal.returns-clause-strings
returns-clause-strings c = grind (arith, common_steps)

pub returns-clause-gathered : goal.returns-clause-gathered
returns-clause-gathered c = grind (arith, common_steps)
