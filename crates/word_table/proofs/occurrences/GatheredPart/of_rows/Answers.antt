use Rattle.std.proofs.Common.{◌≡◌, ◌∷◌, ◌++◌, [], List, refl, ap, ◌∙◌, sym, subst, append_assoc, append-nil}
use Rattle.std.proofs.lemmas.List.Concat.{flat_map-append, flat_map-cons}
use Rattle.rel_base.specs.declared.values.Value.{Value}
use Rattle.word_table.specs.Words.{strings_of_row, strings_of_rows}
use Rattle.word_table.specs.inner.Gathered.{AddsStrings, AreGatheredColumns}
use Rattle.word_table.proofs.GatherLemmas.{AddsStrings-none, AddsStrings-more, next_wide}
use Rattle.word_table.proofs.occurrences.GatheredPart.of_rows.Goals as goal

pub loop-row-init : goal.loop-row-init
loop-row-init c = (
  tt,
  tt,
  c.in_ok-columns.ensures.many,
  ([], c.into_iter-row-iterator.ensures.into_iter_gives, AddsStrings-none c.args.strings.now.found.items, c.in_ok-columns.ensures.none c.args.strings.now.found.items),
)

pub add_row-requires : goal.add_row-requires
add_row-requires c =
    let inv = c.loop-row.invariant in
    let is = ap (λ (rs : List (List Value)). inv.3.0 ++ rs) (sym c.in-Some.ensures.steps) ∙ inv.3.1 in
    next_wide inv.3.0 c.next.new.self c.args.rows.now c.in-Some.row.now c.args.width is c.requires ∙ sym inv.2

pub loop-row-preserved : goal.loop-row-preserved
loop-row-preserved c =
    let inv = c.loop-row.invariant in
    let so_far : List (List Value) = inv.3.0 in
    let row = c.in-Some.row.now in
    let left = c.next.new.self in
    let first = c.args.strings.now.found.items in
    let old = c.loop-row.strings.found.items in
    let later = c.add_row.new.strings.found.items in
    let more : strings_of_rows (so_far ++ row ∷ []) ≡ strings_of_rows so_far ++ strings_of_row row =
    flat_map-append strings_of_row so_far (row ∷ []) ∙ ap (λ l. strings_of_rows so_far ++ l) (flat_map-cons strings_of_row row [] ∙ append-nil (strings_of_row row)) in (
      tt,
      tt,
      c.in_ok-add_row.ensures.long ∙ inv.2,
      (
        so_far ++ row ∷ [],
        append_assoc so_far (row ∷ []) left ∙ ap (λ (rs : List (List Value)). so_far ++ rs) (sym c.in-Some.ensures.steps) ∙ inv.3.1,
        subst (AddsStrings first later) (sym more) (AddsStrings-more first old later (strings_of_rows so_far) (strings_of_row row) inv.3.2 c.in_ok-add_row.ensures.strings),
        c.in_ok-add_row.ensures.gathered so_far inv.3.3,
      ),
    )

pub returns-clause-strings : goal.returns-clause-strings
returns-clause-strings c =
    let inv = c.loop-row.invariant in
    let left = rw c.in-None.is at c.next.ensures.steps in
    let all : inv.3.0 ≡ c.args.rows.now = sym (append-nil inv.3.0) ∙ ap (λ (rs : List (List Value)). inv.3.0 ++ rs) (sym left.0) ∙ inv.3.1 in
    subst (λ rs. AddsStrings c.args.strings.now.found.items c.loop-row.strings.found.items (strings_of_rows rs)) all inv.3.2

pub returns-clause-gathered : goal.returns-clause-gathered
returns-clause-gathered c =
    let inv = c.loop-row.invariant in
    let left = rw c.in-None.is at c.next.ensures.steps in
    let all : inv.3.0 ≡ c.args.rows.now = sym (append-nil inv.3.0) ∙ ap (λ (rs : List (List Value)). inv.3.0 ++ rs) (sym left.0) ∙ inv.3.1 in
    record {
      wide = c.requires;
      as_wide = refl;
      counted = c.len-2.ensures;
      many = inv.2;
      columns = subst (λ rs. AreGatheredColumns rs c.loop-row.columns.items c.loop-row.strings.found.items) all inv.3.3;
    }
