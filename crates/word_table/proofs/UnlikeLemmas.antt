-- What holds of parts that are like none before them holds of all parts.
use Rattle.std.proofs.Common.{◌≡◌, ℕ, zero, suc, ◌+◌, ◌<◌, List, [], ◌∷◌, ◌++◌, true, All, length, get_or, map, refl, ap, ◌∙◌, sym, subst, arith, inl, inr}
use Rattle.std.specs.Prelude.{Contains}
use Rattle.std.specs.Borrow.{Bor}
use Rattle.std.specs.FinMap.{slice_cmp-IsAntisymmetric}
use Rattle.std.specs.List.{flat_map}
use Rattle.std.specs.Ordering.{eq_by_cmp}
use Rattle.std.proofs.lemmas.Bool.{cases_lt}
use Rattle.std.proofs.lemmas.List.{get_or_append_left, get_or-append-add, get_or_default, get_or-map, length-map}
use Rattle.std.proofs.lemmas.List.Concat.{flat_map-cons}
use Rattle.std.proofs.lemmas.List.Elements.{Contains-append_cases}
use Rattle.rel_base.specs.Values.{rows_order}
use Rattle.rel_base.specs.ValueLaws.{row_order-IsAntisymmetric}
use Rattle.rel_base.specs.declared.rows.Rows.{Rows}
use Rattle.rel_base.specs.declared.values.Value.{Value}
use Rattle.word_table.specs.WordTables.{WordTable}
use Rattle.word_table.specs.Words.{strings_of_rows, strings_in, word_of, IsDictionaryOf}
use Rattle.word_table.specs.Encodings.{AreWide, AreTablesOf}
use Rattle.word_table.specs.inner.Unlike.{parts_in, AreUnlike, ArePicked}
use Rattle.word_table.proofs.BuildLemmas.{Contains-flat_map, equal_from_test}
use Rattle.word_table.proofs.GatherLemmas.{longer}

-- an item behind a list: those before it are as they were, and it is the last
before : {X : Type 0} (xs : List X) (x d : X) (j : ℕ) → j < length xs → get_or (xs ++ x ∷ []) j d ≡ get_or xs j d
before xs x d j below = get_or_append_left xs (x ∷ []) d j below

last : {X : Type 0} (xs : List X) (x d : X) (j : ℕ) → j ≡ length xs → get_or (xs ++ x ∷ []) j d ≡ x
last xs x d j end =
    let at : j ≡ length xs + 0 = omega arith in
    ap (λ n. get_or (xs ++ x ∷ []) n d) at ∙ get_or-append-add xs (x ∷ []) 0 d

-- the rows of a part that is lent
pub parts-many : (parts : List (Bor Rows)) → length (parts_in parts) ≡ length parts
parts-many parts = length-map parts (λ (rows : Bor Rows). rows.now)

pub part_at : (parts : List (Bor Rows)) (place : ℕ) (d : Bor Rows) → place < length parts → get_or (parts_in parts) place [] ≡ (get_or parts place d).now
part_at parts place d below = get_or-map (λ (rows : Bor Rows). rows.now) parts place d [] below

-- lists of rows that tie are equal
pub rows_tied : (rows others : List (List Value)) → eq_by_cmp rows_order rows others ≡ true → rows ≡ others
rows_tied rows others e = slice_cmp-IsAntisymmetric row_order-IsAntisymmetric rows others (equal_from_test (rows_order rows others) e)

pub AreUnlike-none : AreUnlike [] [] [] [] []
AreUnlike-none = record {
  even = refl;
  many = refl;
  wide = refl;
  within = λ j below. absurd (omega arith);
  rows = λ j below. absurd (omega arith);
  columns = λ j below. absurd (omega arith);
  from = λ i below. absurd (omega arith);
}

module _ (parts : List (List (List Value))) (widths : List ℕ) (own : List (List (List Value))) (own_widths places : List ℕ) (had : AreUnlike parts widths own own_widths places) (rows : List (List Value)) (width : ℕ) where
  -- each part that is there is still one of the parts
  still : (i : ℕ) → i < length own
      → (j : ℕ) × (j < length (parts ++ rows ∷ [])) × (get_or (parts ++ rows ∷ []) j [] ≡ get_or own i []) × (get_or (widths ++ width ∷ []) j 0 ≡ get_or own_widths i 0)
  still i below =
      let is = had.from i below in
      let j = is.0 in
      let even = had.even in
      let inside : j < length parts = is.1 in (
        j,
        omega (arith, longer parts rows),
        before parts rows [] j inside ∙ is.2,
        before widths width 0 j (omega arith) ∙ is.3,
      )

  -- one part more, which is like one that is there
  pub AreUnlike-known : (p : ℕ) → p < length own → get_or own p [] ≡ rows → get_or own_widths p 0 ≡ width
      → AreUnlike (parts ++ rows ∷ []) (widths ++ width ∷ []) own own_widths (places ++ p ∷ [])
  AreUnlike-known p there same as_wide =
      let many_places = had.many in
      let as_even = had.even in
      record {
        even = omega (arith, longer parts rows, longer widths width);
        many = omega (arith, longer parts rows, longer places p);
        wide = had.wide;
        within = λ j below. elim (cases_lt j (length parts)) [
          | inl less ↦ subst (λ n. n < length own) (sym (before places p 0 j (omega arith))) (had.within j less)
          | inr end ↦ subst (λ n. n < length own) (sym (last places p 0 j (omega (arith, longer parts rows)))) there
        ];
        rows = λ j below. elim (cases_lt j (length parts)) [
          | inl less ↦ ap (λ n. get_or own n []) (before places p 0 j (omega arith)) ∙ had.rows j less ∙ sym (before parts rows [] j less)
          | inr end ↦
              ap (λ n. get_or own n []) (last places p 0 j (omega (arith, longer parts rows))) ∙ same
              ∙ sym (last parts rows [] j (omega (arith, longer parts rows)))
        ];
        columns = λ j below. elim (cases_lt j (length parts)) [
          | inl less ↦ ap (λ n. get_or own_widths n 0) (before places p 0 j (omega arith)) ∙ had.columns j less ∙ sym (before widths width 0 j (omega arith))
          | inr end ↦
              ap (λ n. get_or own_widths n 0) (last places p 0 j (omega (arith, longer parts rows))) ∙ as_wide
              ∙ sym (last widths width 0 j (omega (arith, longer parts rows)))
        ];
        from = still;
      }

  -- one part more, which is there from now on
  pub AreUnlike-new : (p : ℕ) → p ≡ length own → AreUnlike (parts ++ rows ∷ []) (widths ++ width ∷ []) (own ++ rows ∷ []) (own_widths ++ width ∷ []) (places ++ p ∷ [])
  AreUnlike-new p end_of_own =
      let many_places = had.many in
      let as_many = had.wide in
      let as_even = had.even in
      record {
        even = omega (arith, longer parts rows, longer widths width);
        many = omega (arith, longer parts rows, longer places p);
        wide = omega (arith, longer own rows, longer own_widths width);
        within = λ j below. elim (cases_lt j (length parts)) [
          | inl less ↦
              let inside = had.within j less in
              subst (λ n. n < length (own ++ rows ∷ [])) (sym (before places p 0 j (omega arith))) (omega (arith, longer own rows))
          | inr end ↦
              subst (λ n. n < length (own ++ rows ∷ [])) (sym (last places p 0 j (omega (arith, longer parts rows)))) (omega (arith, longer own rows))
        ];
        rows = λ j below. elim (cases_lt j (length parts)) [
          | inl less ↦
              ap (λ n. get_or (own ++ rows ∷ []) n []) (before places p 0 j (omega arith)) ∙ before own rows [] (get_or places j 0) (had.within j less)
              ∙ had.rows j less ∙ sym (before parts rows [] j less)
          | inr end ↦
              ap (λ n. get_or (own ++ rows ∷ []) n []) (last places p 0 j (omega (arith, longer parts rows))) ∙ last own rows [] p end_of_own
              ∙ sym (last parts rows [] j (omega (arith, longer parts rows)))
        ];
        columns = λ j below. elim (cases_lt j (length parts)) [
          | inl less ↦
              let inside = had.within j less in
              ap (λ n. get_or (own_widths ++ width ∷ []) n 0) (before places p 0 j (omega arith)) ∙ before own_widths width 0 (get_or places j 0) (omega arith)
              ∙ had.columns j less ∙ sym (before widths width 0 j (omega arith))
          | inr end ↦
              ap (λ n. get_or (own_widths ++ width ∷ []) n 0) (last places p 0 j (omega (arith, longer parts rows))) ∙ last own_widths width 0 p (omega arith)
              ∙ sym (last widths width 0 j (omega (arith, longer parts rows)))
        ];
        from = λ i below. elim (cases_lt i (length own)) [
          | inl less ↦
              let is = still i less in (
                is.0,
                is.1,
                is.2 ∙ sym (before own rows [] i less),
                is.3 ∙ sym (before own_widths width 0 i (omega arith)),
              )
          | inr end ↦ (
            length parts,
            omega (arith, longer parts rows),
            last parts rows [] (length parts) refl ∙ sym (last own rows [] i (omega (arith, longer own rows))),
            last widths width 0 (length parts) (sym as_even) ∙ sym (last own_widths width 0 i (omega (arith, longer own rows))),
          )
        ];
      }

-- what stands in what all items give stands in what one of them gives
Contains-of_flat_map : {X : Type 0} (f : X → List (List ℕ)) (xs : List X) (s : List ℕ) (d : X) → Contains (flat_map f xs) s → (i : ℕ) × (i < length xs) × Contains (f (get_or xs i d)) s
Contains-of_flat_map f [] s d held = absurd (let below = held.1 in omega arith)
Contains-of_flat_map f (x ∷ xs) s d held = elim (Contains-append_cases (f x) (flat_map f xs) s (subst (λ l. Contains l s) (flat_map-cons f x xs) held)) [
  | inl first ↦ (zero, omega arith, first)
  | inr behind ↦ let at = Contains-of_flat_map f xs s d behind in let below = at.1 in (suc at.0, omega arith, at.2)
]

-- strings of parts that are among others are strings of those
strings_among : (parts others : List (List (List Value))) → ((i : ℕ) → i < length parts → (j : ℕ) × (j < length others) × (get_or others j [] ≡ get_or parts i [])) → (s : List ℕ) → Contains (strings_in parts) s → Contains (strings_in others) s
strings_among parts others among s held =
    let at = Contains-of_flat_map strings_of_rows parts s [] held in
    let other = among at.0 at.1 in
    Contains-flat_map strings_of_rows others other.0 [] s other.1 (subst (λ rows. Contains (strings_of_rows rows) s) (sym other.2) at.2)

module _ (parts : List (List (List Value))) (widths : List ℕ) (own : List (List (List Value))) (own_widths places : List ℕ) (unlike : AreUnlike parts widths own own_widths places) where
  pub AreWide-unlike : AreWide widths parts → AreWide own_widths own
  AreWide-unlike wide = record {
    many = unlike.wide;
    each = λ i below.
        let is = unlike.from i below in
        subst (λ rows. All (λ row. length row ≡ get_or own_widths i 0) rows) is.2
        (subst (λ n. All (λ row. length row ≡ n) (get_or parts is.0 [])) is.3 (wide.each is.0 is.1));
  }

  pub IsDictionaryOf-unlike : (strings : List (List ℕ)) → IsDictionaryOf own strings → IsDictionaryOf parts strings
  IsDictionaryOf-unlike strings is = record {
    ascending = is.ascending;
    whole = λ s. (
      (λ held.
          strings_among own parts (λ i below. let from = unlike.from i below in (from.0, from.1, from.2)) s ((is.whole s).0 held)),
      (λ held.
          (is.whole s).1
          (strings_among parts own (λ j below. (get_or places j 0, unlike.within j below, unlike.rows j below)) s held)),
    );
  }

  pub All-unlike : (P : List (List Value) → Type 0) → All P own → All P parts
  All-unlike P all j d below =
      subst P
      (unlike.rows j below ∙ get_or_default parts j [] d below)
      (all (get_or places j 0) [] (unlike.within j below))

  pub AreTablesOf-unlike : (strings : List (List ℕ)) (tables made : List WordTable) → AreTablesOf strings own_widths own tables → ArePicked tables places made → AreTablesOf strings widths parts made
  AreTablesOf-unlike strings tables made are picked = record {
    many = picked.many ∙ unlike.many;
    columns = λ j d below.
        ap (λ (t : WordTable). t.columns) (picked.each j d (let many = unlike.many in omega arith)) ∙ are.columns (get_or places j 0) d (unlike.within j below) ∙ unlike.columns j below;
    rows = λ j d below.
        ap (λ (t : WordTable). t.rows) (picked.each j d (let many = unlike.many in omega arith)) ∙ are.rows (get_or places j 0) d (unlike.within j below) ∙ ap (map (map (word_of strings))) (unlike.rows j below);
  }
