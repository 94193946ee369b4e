-- Ranks of sorted occurrences: how they are found one after another, and that they are the words of the strings.
use Rattle.std.proofs.Common.{◌≡◌, ◌≢◌, ℕ, suc, ◌+◌, ◌-◌, ◌<◌, ◌≤◌, true, false, List, [], ◌∷◌, ◌++◌, length, get_or, take, map, refl, ap, ◌∙◌, sym, subst, All, arith, inl, inr, length-append, get_or-set_other, get_or-set_same}
use Rattle.std.specs.Prelude.{Contains, AllPairs, IsPermutation}
use Rattle.std.specs.List.{flat_map}
use Rattle.std.specs.declared.cmp.Ordering.{Ordering}
use Rattle.std.specs.declared.cmp.Ordering.TheVariants.{Less, Equal, Greater}
use Rattle.std.specs.Ordering.{is_lt, ordering_reverse}
use Rattle.std.proofs.lemmas.Bool.{cases_lt, cases_eq}
use Rattle.std.proofs.lemmas.Cmp.{nat_list_cmp_total}
use Rattle.std.proofs.lemmas.List.{get_or_append_left, get_or-append-add, get_or_default, get_or-map, get_or-take, length-map, length-take-le, ext_get_or, length-set}
use Rattle.std.proofs.lemmas.List.Concat.{flat_map-cons}
use Rattle.std.proofs.lemmas.List.Elements.{Contains-append_cases, Contains-get_or}
use Rattle.std.proofs.lemmas.List.Quantifiers.{all_pairs_push}
use Rattle.std.proofs.lemmas.List.Sorted.{All-permutation, Contains-permutation, length_permutation}
use Rattle.std.proofs.Math.ListN.{set}
use Rattle.rel_base.specs.declared.values.Value.{Value}
use Rattle.rel_base.specs.declared.values.Value.TheVariants as variant
use Rattle.word_table.specs.Words.{text_order, strings_of_value, strings_of_row, strings_of_rows, strings_in, IsAscending, IsDictionaryOf, rank, word_of, HasWord}
use Rattle.word_table.specs.declared.numbering.Occurrence.{Occurrence}
use Rattle.word_table.specs.declared.occurrences.GatheredColumn.{GatheredColumn}
use Rattle.word_table.specs.declared.occurrences.GatheredPart.{GatheredPart}
use Rattle.word_table.specs.inner.Gathered.{value_at, values_at, StandsAt, IsNumber, AreNumbered, AddsStrings, IsGathered, IsGatheredPart, AreGathered, Rise, IsLast, IsRanked, AreRanksOf, HasRanks}
use Rattle.word_table.proofs.WordLemmas.{same_text, rank_at}

pub IsRanked-none : (found : List Occurrence) (words : List ℕ) → IsRanked found 0 [] words words
IsRanked-none found words = record {
  long = refl;
  ascending = λ i j d h k. absurd (omega arith);
  earlier = λ k d o h. absurd (omega arith);
  ranked = λ values stand j o d h. absurd (omega arith);
  others = λ p none. refl;
}

-- an order that is neither less nor equal the other way round is less
less_from : (s t : List ℕ) → is_lt (text_order t s) ≡ false → (text_order t s ≡ Equal → ⊥) → text_order s t ≡ Less
less_from s t not_less not_equal = by (text_order t s) refl
  where
    by : (r : Ordering) → text_order t s ≡ r → text_order s t ≡ Less
    by Less e = let bad : true ≡ false = sym (ap is_lt e) ∙ not_less in absurd (cc)
    by Equal e = absurd (not_equal e)
    by Greater e = nat_list_cmp_total.antisymm s t ∙ ap ordering_reverse e

module _ (found : List Occurrence) (done : ℕ) (strings : List (List ℕ)) (old mid : List ℕ) (o : Occurrence) (had : IsRanked found done strings old mid) (rise : Rise found) (there : done < length found) (is : get_or found done o ≡ o) (place : o.place < length mid) where
  -- the string of the next occurrence is below none so far
  not_below : (k : ℕ) (d : List ℕ) → k < length strings → is_lt (text_order o.string (get_or strings k d)) ≡ false
  not_below k d h =
      let from = had.earlier k d o h in
      let up : is_lt (text_order (get_or found done o).string (get_or found from.0 o).string) ≡ false = rise.in_turn from.0 done o (omega (arith, from.1)) there in
      (λ i. is_lt (text_order ((sym is) i).string (from.2 i))) ∙ up

  -- and where it isn't the last of them, each of them is below it
  above_all : (IsLast strings o.string → ⊥) → (k : ℕ) (d : List ℕ) → k < length strings → text_order (get_or strings k d) o.string ≡ Less
  above_all beyond k d h = less_from (get_or strings k d) o.string (not_below k d h) (λ tied.
      let same : o.string ≡ get_or strings k d = same_text o.string (get_or strings k d) tied in
      elim (cases_lt k (length strings - 1)) [
        | inl less ↦
            let last : length strings - 1 < length strings = omega arith in
            let below : text_order (get_or strings k d) (get_or strings (length strings - 1) d) ≡ Less = had.ascending k (length strings - 1) d less last in
            let bad : true ≡ false = sym (ap is_lt (ap (λ s. text_order s (get_or strings (length strings - 1) d)) same ∙ below)) ∙ not_below (length strings - 1) d last in
            cc
        | inr end ↦
            let at_end : k ≡ length strings - 1 = omega arith in
            beyond (omega arith, get_or_default strings (length strings - 1) [] d (omega arith) ∙ ap (λ n. get_or strings n d) (sym at_end) ∙ sym same)
      ])

  -- the strings with the next one among them
  module _ (more : List (List ℕ)) (kept : (k : ℕ) (d : List ℕ) → k < length strings → get_or more k d ≡ get_or strings k d) (long : length strings ≤ length more) (last : (0 < length more) × ((d : List ℕ) → get_or more (length more - 1) d ≡ o.string)) (up : IsAscending more)
      (origin : (k : ℕ) (d : List ℕ) → length strings ≤ k → k < length more → get_or more k d ≡ o.string) (new : List ℕ) (written : new ≡ set mid o.place (length more - 1)) where
    at_place : get_or new o.place 0 ≡ length more - 1
    at_place = ap (λ (ws : List ℕ). get_or ws o.place 0) written ∙ get_or-set_same mid o.place (length more - 1) 0 place

    elsewhere : (p : ℕ) → p ≢ o.place → get_or new p 0 ≡ get_or mid p 0
    elsewhere p ne = ap (λ (ws : List ℕ). get_or ws p 0) written ∙ get_or-set_other mid o.place p (length more - 1) 0 ne

    earlier : (k : ℕ) (d : List ℕ) (e : Occurrence) → k < length more → (j : ℕ) × (j < done + 1) × (get_or more k d ≡ (get_or found j e).string)
    earlier k d e h = elim (cases_lt k (length strings)) [
      | inl less ↦ let from = had.earlier k d e less in (from.0, omega (arith, from.1), kept k d less ∙ from.2)
      | inr fresh ↦ (done, omega arith, origin k d fresh h ∙ ap (λ (x : Occurrence). x.string) (sym is) ∙ ap (λ (x : Occurrence). x.string) (get_or_default found done o e there))
    ]

    ranked : (values : List Value) → All (StandsAt values) found → (j : ℕ) (e : Occurrence) (d : List ℕ) → j < done + 1
        → (get_or new (get_or found j e).place 0 < length more) × (get_or more (get_or new (get_or found j e).place 0) d ≡ (get_or found j e).string)
    ranked values stand j e d h =
        let x : Occurrence = get_or found j e in
        let at_x : StandsAt values x = stand j e (omega arith) in
        let at_o : StandsAt values o = subst (StandsAt values) is (stand done o there) in
        elim (cases_eq x.place o.place) [
          | inl same ↦
              let word : get_or new x.place 0 ≡ length more - 1 = ap (λ p. get_or new p 0) same ∙ at_place in
              let both : variant.Str x.string ≡ variant.Str o.string = sym at_x.is ∙ ap (value_at values) same ∙ at_o.is in
              let text : x.string ≡ o.string = cc in
              let some : 0 < length more = last.0 in
              (rw word (omega arith), ap (λ n. get_or more n d) word ∙ last.1 d ∙ sym text)
          | inr other ↦
              let before : j < done = elim (cases_eq j done) [
                | inl now ↦ absurd (other (ap (λ n. (get_or found n e).place) now ∙ ap (λ (y : Occurrence). y.place) (sym (get_or_default found done o e there) ∙ is)))
                | inr not_now ↦ omega arith
              ] in
              let was = had.ranked values stand j e d before in
              let word : get_or new x.place 0 ≡ get_or mid x.place 0 = elsewhere x.place other in
              (rw word (omega (arith, was.0)), ap (λ n. get_or more n d) word ∙ kept (get_or mid x.place 0) d was.0 ∙ was.1)
        ]

    others : (p : ℕ) → ((j : ℕ) (e : Occurrence) → j < done + 1 → (get_or found j e).place ≢ p) → get_or new p 0 ≡ get_or old p 0
    others p none =
        let ne : p ≢ o.place = λ (same : p ≡ o.place). none done o (omega arith) (ap (λ (x : Occurrence). x.place) is ∙ sym same) in
        elsewhere p ne ∙ had.others p (λ j e low. none j e (omega arith))

    pub IsRanked-with : IsRanked found (done + 1) more old new
    IsRanked-with = record {
      long = ap length written ∙ length-set mid o.place (length more - 1) ∙ had.long;
      ascending = up;
      earlier = earlier;
      ranked = ranked;
      others = others;
    }

  -- where the string is the last so far, the strings stay
  pub IsRanked-again : IsLast strings o.string → (new : List ℕ) → new ≡ set mid o.place (length strings - 1) → IsRanked found (done + 1) strings old new
  IsRanked-again last new written =
      let some : 0 < length strings = last.0 in
      IsRanked-with strings (λ k d h. refl) (omega arith) (last.0, λ d. get_or_default strings (length strings - 1) d [] (omega arith) ∙ last.1) had.ascending
      (λ k d low high. absurd (omega arith)) new written

  -- where it isn't, it comes behind them
  pub IsRanked-next : (IsLast strings o.string → ⊥) → (more : List (List ℕ)) → more ≡ strings ++ o.string ∷ [] → (new : List ℕ) → new ≡ set mid o.place (length more - 1) → IsRanked found (done + 1) more old new
  IsRanked-next beyond more added new written =
      let long : length more ≡ length strings + 1 = ap length added ∙ length-append strings (o.string ∷ []) in
      let end : (k : ℕ) (d : List ℕ) → length strings ≤ k → k < length more → get_or more k d ≡ o.string =
      λ k d low high.
      let at_end : k ≡ length strings + 0 = omega arith in
      (λ i. get_or (added i) (at_end i) d) ∙ get_or-append-add strings (o.string ∷ []) 0 d in
      IsRanked-with more (λ k d h. ap (λ (l : List (List ℕ)). get_or l k d) added ∙ get_or_append_left strings (o.string ∷ []) d k h) (omega arith)
      (omega arith, λ d. end (length more - 1) d (omega arith) (omega arith))
      (subst IsAscending (sym added) (all_pairs_push (λ s t. text_order s t ≡ Less) strings o.string had.ascending (above_all beyond)))
      end new written

-- ---- all occurrences of gathered values

-- what a flat list has, one of its items has
Contains-from_flat_map : {X : Type 0} (f : X → List (List ℕ)) (xs : List X) (e : X) (s : List ℕ) → Contains (flat_map f xs) s → (k : ℕ) × (k < length xs) × Contains (f (get_or xs k e)) s
Contains-from_flat_map f [] e s held = absurd (omega (arith, held.1))
Contains-from_flat_map f (x ∷ xs) e s held =
    elim (Contains-append_cases (f x) (flat_map f xs) s (subst (λ l. Contains l s) (flat_map-cons f x xs) held)) [
      | inl front ↦ (0, omega arith, front)
      | inr later ↦ let found = Contains-from_flat_map f xs e s later in (suc found.0, omega (arith, found.1), found.2)
    ]

-- a value that has a string is this string
string_from : (v : Value) (s : List ℕ) → Contains (strings_of_value v) s → v ≡ variant.Str s
string_from (variant.Int n) s held = absurd (omega (arith, held.1))
string_from (variant.Bool b) s held = absurd (omega (arith, held.1))
string_from (variant.Str t) s held =
    let first : held.0 ≡ 0 = omega (arith, held.1) in
    let is : t ≡ s = sym (ap (λ k. get_or (t ∷ []) k s) first) ∙ held.2 in
    ap variant.Str is

-- ---- ranks in place of numbers

pub HasRanks-none : (ranks words : List ℕ) → HasRanks [] ranks words words
HasRanks-none ranks words = record {
  long = refl;
  ranked = λ k d h. absurd (omega arith);
  others = λ p none. refl;
}

-- a place has not been written before
pub kept-before : (places : List ℕ) (count : ℕ) (ranks old mid : List ℕ) → AllPairs (λ p q. p < q) places → count < length places → HasRanks (take count places) ranks old mid
    → get_or mid (get_or places count 0) 0 ≡ get_or old (get_or places count 0) 0
kept-before places count ranks old mid up low had =
    had.others (get_or places count 0)
    (λ k d h e.
    let less : k < count = let short = length-take-le count places (omega arith) in omega arith in
    let own : get_or (take count places) k d ≡ get_or places k 0 = get_or-take count places k d less ∙ get_or_default places k d 0 (omega arith) in
    let below : get_or places k 0 < get_or places count 0 = up k count 0 less low in
    let bad : get_or places k 0 ≡ get_or places count 0 = sym own ∙ e in
    omega arith)

-- one place more
pub HasRanks-more : (places : List ℕ) (count : ℕ) (q : ℕ) (ranks old mid new : List ℕ) → AllPairs (λ p q. p < q) places → count < length places → q ≡ get_or places count q → q < length old
    → new ≡ set mid q (get_or ranks (get_or mid q 0) 0) → HasRanks (take count places) ranks old mid → HasRanks (take (count + 1) places) ranks old new
HasRanks-more places count q ranks old mid new up low at within written had = record {
  long = ap length written ∙ length-set mid q (get_or ranks (get_or mid q 0) 0) ∙ had.long;
  ranked = λ k d h. elim (cases_lt k count) [
    | inl less ↦
        let front : get_or (take (count + 1) places) k d ≡ get_or (take count places) k d = get_or-take (count + 1) places k d (omega arith) ∙ sym (get_or-take count places k d less) in
        let own : get_or (take count places) k d ≡ get_or places k q = get_or-take count places k d less ∙ get_or_default places k d q (omega arith) in
        let below : get_or places k q < get_or places count q = up k count q less low in
        let other : get_or (take (count + 1) places) k d ≢ q = λ (same : get_or (take (count + 1) places) k d ≡ q). let e : get_or places k q ≡ q = sym own ∙ sym front ∙ same in omega arith in
        ap (λ (ws : List ℕ). get_or ws (get_or (take (count + 1) places) k d) 0) written ∙ get_or-set_other mid q (get_or (take (count + 1) places) k d) (get_or ranks (get_or mid q 0) 0) 0 other
        ∙ ap (λ n. get_or mid n 0) front ∙ had.ranked k d (omega (arith, short)) ∙ ap (λ n. get_or ranks (get_or old n 0) 0) (sym front)
    | inr end ↦
        let last : k ≡ count = omega (arith, long) in
        let here : get_or (take (count + 1) places) k d ≡ q = get_or-take (count + 1) places k d (omega arith) ∙ get_or_default places k d q (omega arith) ∙ ap (λ n. get_or places n q) last ∙ sym at in
        ap (λ n. get_or new n 0) here ∙ ap (λ (ws : List ℕ). get_or ws q 0) written ∙ get_or-set_same mid q (get_or ranks (get_or mid q 0) 0) 0 (let l = had.long in omega arith)
        ∙ ap (λ n. get_or ranks n 0) before ∙ ap (λ n. get_or ranks (get_or old n 0) 0) (sym here)
  ];
  others = λ p none.
      let other : p ≢ q = λ (same : p ≡ q). none count q (omega (arith, long)) (get_or-take (count + 1) places count q (omega arith) ∙ sym at ∙ sym same) in
      ap (λ (ws : List ℕ). get_or ws p 0) written ∙ get_or-set_other mid q p (get_or ranks (get_or mid q 0) 0) 0 other
      ∙ had.others p (λ k d h e. none k d (omega (arith, long, short)) (get_or-take (count + 1) places k d (omega (arith, short)) ∙ sym (get_or-take count places k d (omega (arith, short))) ∙ e));
}
  where
    short : length (take count places) ≡ count
    short = length-take-le count places (omega arith)

    long : length (take (count + 1) places) ≡ count + 1
    long = length-take-le (count + 1) places (omega arith)

    -- the place has not been written before
    before : get_or mid q 0 ≡ get_or old q 0
    before =
        had.others q
        (λ k d h e.
        let less : k < count = omega (arith, short) in
        let own : get_or (take count places) k d ≡ get_or places k q = get_or-take count places k d less ∙ get_or_default places k d q (omega arith) in
        let below : get_or places k q < get_or places count q = up k count q less low in
        let bad : get_or places k q ≡ q = sym own ∙ e in
        omega arith)

-- occurrences as values: each stands at its number
abbrev pub texts_of : List Occurrence → List Value
texts_of found = map (λ (o : Occurrence). variant.Str o.string) found

pub stand-numbered : (found : List Occurrence) → AreNumbered found → All (StandsAt (texts_of found)) found
stand-numbered found numbered k d h =
    let place = numbered k d h in
    record {
      within = omega (arith, length-map found (λ (o : Occurrence). variant.Str o.string));
      is = ap (value_at (texts_of found)) place ∙ get_or-map (λ (o : Occurrence). variant.Str o.string) found k d (variant.Bool false) h;
    }

-- the rank of each number is the place of its string
pub AreRanksOf-ranked : (found sorted : List Occurrence) → AreNumbered found → IsPermutation found sorted → (strings : List (List ℕ)) (zeros ranks : List ℕ) → length zeros ≡ length sorted → IsRanked sorted (length sorted) strings zeros ranks → AreRanksOf found ranks strings
AreRanksOf-ranked found sorted numbered moved strings zeros ranks zeroed ranked = record {
  ascending = ranked.ascending;
  there = let long = ranked.long in let same = length_permutation found sorted moved in omega arith;
  within = λ s n is. (of_number s n [] is).0;
  string = λ s n d is. (of_number s n d is).1;
}
  where
    stand : All (StandsAt (texts_of found)) sorted
    stand = All-permutation (StandsAt (texts_of found)) found sorted moved (stand-numbered found numbered)

    of_number : (s : List ℕ) (n : ℕ) (d : List ℕ) → IsNumber found s n → (get_or ranks n 0 < length strings) × (get_or strings (get_or ranks n 0) d ≡ s)
    of_number s n d is =
        let none : Occurrence = record { string = []; place = 0 } in
        let low = is.within in
        let o : Occurrence = get_or found n none in
        let there = Contains-permutation found sorted o moved (Contains-get_or found n none low) in
        let at : get_or sorted there.0 o ≡ o = there.2 in
        let rank = ranked.ranked (texts_of found) stand there.0 o d there.1 in
        let place : (get_or sorted there.0 o).place ≡ n = ap (λ (x : Occurrence). x.place) at ∙ numbered n none low in
        let string : (get_or sorted there.0 o).string ≡ s = ap (λ (x : Occurrence). x.string) at ∙ is.string none in
        (subst (λ m. get_or ranks m 0 < length strings) place rank.0, ap (λ m. get_or strings (get_or ranks m 0) d) (sym place) ∙ rank.1 ∙ string)

-- ---- the words of gathered values

module _ (values : List Value) (words places : List ℕ) (found : List Occurrence) (strings : List (List ℕ)) (ranks : List ℕ) (gathered : IsGathered values words places found) (are : AreRanksOf found ranks strings) where
  -- each place has a number that has a rank
  pub gathered-within : All (λ q. q < length words) places
  gathered-within k d h = let low = (gathered.at_strings k d h).within in let long = gathered.long in omega arith

  pub gathered-numbers : All (λ q. get_or words q 0 < length ranks) places
  gathered-numbers k d h =
      let at = gathered.at_strings k d h in
      let number = (gathered.strings (get_or places k d) at.string.0 at.within at.string.1).1 in
      let low = number.within in
      let there = are.there in
      omega arith

  -- each value has a word
  pub gathered-has : (p : ℕ) → p < length values → HasWord strings (value_at values p)
  gathered-has p h = by (value_at values p) refl
    where
      by : (v : Value) → value_at values p ≡ v → HasWord strings (value_at values p)
      by (variant.Int n) is = (gathered.plain strings p h (ap strings_of_value is)).0
      by (variant.Bool b) is = (gathered.plain strings p h (ap strings_of_value is)).0
      by (variant.Str s) is =
          let number = (gathered.strings p s h is).1 in
          subst (HasWord strings) (sym is) (get_or ranks (get_or words p 0) 0, are.within s (get_or words p 0) number, are.string s (get_or words p 0) s number)

  module _ (new : List ℕ) (put : HasRanks places ranks words new) where
    -- a value that is no string keeps its word
    plain : (p : ℕ) → p < length values → strings_of_value (value_at values p) ≡ [] → get_or new p 0 ≡ word_of strings (value_at values p)
    plain p h none =
        let own = gathered.plain strings p h none in
        let nowhere : (k d : ℕ) → k < length places → get_or places k d ≢ p =
        λ k d low. λ (e : get_or places k d ≡ p).
        let at = (gathered.at_strings k d low).string in
        let is : value_at values p ≡ variant.Str at.0 = ap (value_at values) (sym e) ∙ at.1 in
        let some : at.0 ∷ [] ≡ [] = sym (ap strings_of_value is) ∙ none in
        absurd (cc) in
        put.others p nowhere ∙ own.1

    -- each value's word
    word : (p : ℕ) → p < length values → get_or new p 0 ≡ word_of strings (value_at values p)
    word p h = by (value_at values p) refl
      where
        by : (v : Value) → value_at values p ≡ v → get_or new p 0 ≡ word_of strings (value_at values p)
        by (variant.Int n) is = plain p h (ap strings_of_value is)
        by (variant.Bool b) is = plain p h (ap strings_of_value is)
        by (variant.Str s) is =
            let own = gathered.strings p s h is in
            let at : (k : ℕ) × (k < length places) × (get_or places k p ≡ p) = own.0 in
            let n = get_or words p 0 in
            let put_there : get_or new p 0 ≡ get_or ranks n 0 =
            ap (λ m. get_or new m 0) (sym at.2) ∙ put.ranked at.0 p at.1 ∙ ap (λ m. get_or ranks (get_or words m 0) 0) at.2 in
            let rank : rank strings s ≡ get_or ranks n 0 = rank_at strings s (get_or ranks n 0) are.ascending (are.within s n own.1) (are.string s n s own.1) in
            put_there ∙ sym rank ∙ ap (word_of strings) (sym is)

    pub ranked-words : new ≡ map (word_of strings) values
    ranked-words =
        let long : length new ≡ length values = put.long ∙ gathered.long in
        ext_get_or 0 new (map (word_of strings) values) (long ∙ sym (length-map values (word_of strings)))
        (λ p h. let there : p < length values = rw (← long) h in
        word p there ∙ sym (get_or-map (word_of strings) values p (variant.Bool false) 0 there))

-- ---- the dictionary of gathered parts

-- an item of a list that has one
some_item : {X : Type 0} (xs : List X) → 0 < length xs → X
some_item [] some = absurd (omega arith)
some_item (x ∷ xs) some = x

-- each value of gathered parts has a word
pub ranked-have_words : (widths : List ℕ) (parts : List (List (List Value))) (gathered : List GatheredPart) (found : List Occurrence) (ranks : List ℕ) (strings : List (List ℕ)) → AreGathered widths parts gathered found → AreRanksOf found ranks strings
    → All (All (All (HasWord strings))) parts
ranked-have_words widths parts gathered found ranks strings have are j d h i e there c v low =
    let many = have.many in
    let part : GatheredPart = get_or gathered j (some_item gathered (omega arith)) in
    let own : IsGatheredPart (get_or parts j []) (get_or widths j 0) part found = have.each j (some_item gathered (omega arith)) h in
    let same : get_or parts j d ≡ get_or parts j [] = get_or_default parts j d [] h in
    has_word (get_or parts j []) (get_or widths j 0) part own (get_or parts j d) same i e there c v low
  where
    has_word : (rows : List (List Value)) (width : ℕ) (part : GatheredPart) → IsGatheredPart rows width part found → (own : List (List Value)) → own ≡ rows
        → (k : ℕ) (row : List Value) → k < length own → (n : ℕ) (value : Value) → n < length (get_or own k row) → HasWord strings (get_or (get_or own k row) n value)
    has_word rows width part got own same k row inside n value within =
        let there_k : k < length rows = omega (arith, ap length same) in
        let line : get_or own k row ≡ get_or rows k [] = ap (λ (l : List (List Value)). get_or l k row) same ∙ get_or_default rows k row [] there_k in
        let wide : length (get_or rows k []) ≡ width = got.wide k [] there_k in
        let at : n < length (get_or rows k []) = omega (arith, ap length line) in
        let many_columns = got.many in
        let column : GatheredColumn = some_item part.columns.items (omega arith) in
        let values = values_at rows n in
        let place : k < length values = omega (arith, length-map rows (λ r. value_at r n)) in
        let is : value_at values k ≡ get_or (get_or own k row) n value =
        get_or-map (λ r. value_at r n) rows k [] (variant.Bool false) there_k
        ∙ get_or_default (get_or rows k []) n (variant.Bool false) value at
        ∙ ap (λ (l : List Value). get_or l n value) (sym line) in
        subst (HasWord strings) is
        (gathered-has values (get_or part.columns.items n column).words.items (get_or part.columns.items n column).places.items found strings ranks (got.columns n column (omega arith)) are k place)

-- the strings are those of the parts
pub ranked-dictionary : (parts : List (List (List Value))) (found sorted : List Occurrence) → AddsStrings [] found (strings_in parts) → IsPermutation found sorted → (strings : List (List ℕ)) (zeros ranks : List ℕ) → IsRanked sorted (length sorted) strings zeros ranks
    → All (All (All (HasWord strings))) parts → IsDictionaryOf parts strings
ranked-dictionary parts found sorted added moved strings zeros ranks ranked has = record {
  ascending = ranked.ascending;
  whole = λ s. (from_strings s, to_strings s);
}
  where
    from_strings : (s : List ℕ) → Contains strings s → Contains (strings_in parts) s
    from_strings s held =
        let none : Occurrence = record { string = []; place = 0 } in
        let from = ranked.earlier held.0 s none held.1 in
        let all : All (λ (o : Occurrence). Contains (strings_in parts) o.string) sorted =
        All-permutation (λ (o : Occurrence). Contains (strings_in parts) o.string) found sorted moved (λ k d h. added.fresh k d (omega arith) h) in
        subst (Contains (strings_in parts)) (sym from.2 ∙ held.2) (all from.0 none from.1)

    to_strings : (s : List ℕ) → Contains (strings_in parts) s → Contains strings s
    to_strings s held =
        let part = Contains-from_flat_map strings_of_rows parts [] s held in
        let row = Contains-from_flat_map strings_of_row (get_or parts part.0 []) [] s part.2 in
        let at = Contains-from_flat_map strings_of_value (get_or (get_or parts part.0 []) row.0 []) (variant.Bool false) s row.2 in
        let is = string_from (get_or (get_or (get_or parts part.0 []) row.0 []) at.0 (variant.Bool false)) s at.2 in
        subst (HasWord strings) is (has part.0 [] part.1 row.0 [] row.1 at.0 (variant.Bool false) at.1)
