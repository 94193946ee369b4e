-- The words of gathered columns as the parts' tables; and what a sort leaves of occurrences.
use Rattle.std.proofs.Common.{◌≡◌, ℕ, suc, ◌+◌, ◌<◌, false, List, [], ◌∷◌, length, get_or, map, refl, ap, ◌∙◌, sym, All, arith}
use Rattle.std.specs.Prelude.{IsSorted}
use Rattle.std.specs.declared.cmp.Ordering.{Ordering}
use Rattle.std.specs.declared.cmp.Ordering.TheVariants.{Less, Equal, Greater}
use Rattle.std.specs.Ordering.{is_lt, ordering_then}
use Rattle.std.proofs.lemmas.Cmp.{nat_list_cmp_total}
use Rattle.std.proofs.lemmas.List.{get_or-map, length-map}
use Rattle.std.proofs.lemmas.List.Sorted.{sorted_far, ranks_by}
use Rattle.rel_base.specs.declared.values.Value.{Value}
use Rattle.rel_base.specs.declared.values.Value.TheVariants as variant
use Rattle.word_table.specs.WordTables.{column_of, table_by_columns}
use Rattle.word_table.specs.Words.{text_order}
use Rattle.word_table.specs.declared.numbering.Occurrence.{Occurrence}
use Rattle.word_table.specs.inner.Gathered.{value_at, values_at, Rise}
use Rattle.word_table.proofs.ColumnLemmas.{rows_are}

-- what isn't less by two orders isn't less by the first
pub then_not_less : (r s : Ordering) → is_lt (ordering_then r s) ≡ false → is_lt r ≡ false
then_not_less Less s h = h
then_not_less Equal s h = refl
then_not_less Greater s h = refl

-- occurrences that are sorted by their strings first have strings that rise
pub Rise-sorted : (cmp : Occurrence → Occurrence → Ordering) → ((a b : Occurrence) → is_lt (cmp a b) ≡ false → is_lt (text_order a.string b.string) ≡ false) → (found : List Occurrence) → IsSorted cmp found → Rise found
Rise-sorted cmp first found sorted = record {
  in_turn = λ i j d up low.
      sorted_far (λ (a b : Occurrence). is_lt (text_order a.string b.string)) (ranks_by nat_list_cmp_total (λ (x : Occurrence). x.string)) found
      (λ k e some high. first (get_or found (k + 1) e) (get_or found k e) (sorted k e some high)) i j d up low;
}

-- the words of a column are those of its values
column-words : (f : Value → ℕ) (rows : List (List Value)) (width column : ℕ) → All (λ row. length row ≡ width) rows → column < width → column_of (map (map f) rows) column ≡ map f (values_at rows column)
column-words f [] width column wide low = refl
column-words f (row ∷ rows) width column wide low =
    let first : length row ≡ width = wide 0 [] (omega arith) in
    let word : get_or (map f row) column 0 ≡ f (value_at row column) = get_or-map f row column (variant.Bool false) 0 (omega arith) in
    let others : column_of (map (map f) rows) column ≡ map f (values_at rows column) = column-words f rows width column (λ k d h. wide (suc k) d (omega arith)) low in
    (λ i. word i ∷ others i)

-- columns that have the words of gathered columns make the table of the rows' words
module _ (f : Value → ℕ) (rows : List (List Value)) (width : ℕ) (wide : All (λ row. length row ≡ width) rows) (words : List (List ℕ)) (many : length words ≡ width) (each : (c : ℕ) (d : List ℕ) → c < width → get_or words c d ≡ map f (values_at rows c)) where
  pub gathered-even : All (λ (column : List ℕ). length column ≡ length rows) words
  gathered-even c d h =
      ap length (each c d (omega arith)) ∙ length-map (values_at rows c) f ∙ length-map rows (λ row. value_at row c)

  pub gathered-rows : (table_by_columns width (length rows) words).rows ≡ map (map f) rows
  gathered-rows =
      let long : length (map (map f) rows) ≡ length rows = length-map rows (map f) in
      ap (λ n. (table_by_columns width n words).rows) (sym long)
      ∙ rows_are width (map (map f) rows) words
      (λ k d h.
      let there : k < length rows = rw (← long) h in
      ap length (get_or-map (map f) rows k [] d there) ∙ length-map (get_or rows k []) f ∙ wide k [] there)
      (record {
        many = many;
        each = λ c d h. each c d h ∙ sym (column-words f rows width c wide h);
      })
