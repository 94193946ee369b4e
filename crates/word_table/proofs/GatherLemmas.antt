-- Values that are gathered one after another.
use Rattle.std.proofs.Common.{◌≡◌, ◌≢◌, ℕ, ◌+◌, ◌<◌, ◌≤◌, false, List, [], ◌∷◌, ◌++◌, length, get_or, take, refl, ap, ◌∙◌, sym, subst, arith, inl, inr, All, length-append, get_or-set_other, get_or-set_same}
use Rattle.std.specs.Prelude.{Contains}
use Rattle.std.proofs.lemmas.Bool.{cases_lt}
use Rattle.std.proofs.lemmas.List.{map-append, length-set, length-take-le, get_or-take, get_or_append_left, get_or-append-add}
use Rattle.std.proofs.lemmas.List.Elements.{All-nil, All-push, Contains-append_left, Contains-append_right, Contains-push}
use Rattle.std.proofs.lemmas.List.Quantifiers.{all_pairs_push}
use Rattle.std.proofs.Math.ListN.{set}
use Rattle.rel_base.specs.declared.values.Value.{Value}
use Rattle.rel_base.specs.declared.values.Value.TheVariants as variant
use Rattle.word_table.specs.Words.{strings_of_value, word_of, HasWord}
use Rattle.word_table.specs.declared.numbering.Occurrence.{Occurrence}
use Rattle.word_table.specs.declared.occurrences.GatheredColumn.{GatheredColumn}
use Rattle.word_table.specs.declared.occurrences.GatheredPart.{GatheredPart}
use Rattle.word_table.specs.inner.Gathered.{value_at, values_at, IsStringAt, IsNumber, AddsString, AddsStrings, IsGathered, AreGatheredColumns, AreGatheredUpTo, IsGatheredPart, AreGathered}

-- the values before the last are as they were, and the last is the one that was added
value_at-before : (done : List Value) (v : Value) (p : ℕ) → p < length done → value_at (done ++ v ∷ []) p ≡ value_at done p
value_at-before done v p h = get_or_append_left done (v ∷ []) (variant.Bool false) p h

value_at-last : (done : List Value) (v : Value) (p : ℕ) → p ≡ length done → value_at (done ++ v ∷ []) p ≡ v
value_at-last done v p e =
    let end : p ≡ length done + 0 = omega arith in
    ap (λ n. value_at (done ++ v ∷ []) n) end ∙ get_or-append-add done (v ∷ []) 0 (variant.Bool false)

word-last : (words : List ℕ) (w p : ℕ) → p ≡ length words → get_or (words ++ w ∷ []) p 0 ≡ w
word-last words w p e =
    let end : p ≡ length words + 0 = omega arith in
    ap (λ n. get_or (words ++ w ∷ []) n 0) end ∙ get_or-append-add words (w ∷ []) 0 0

-- a list with one item more
pub longer : {X : Type 0} (xs : List X) (x : X) → length (xs ++ x ∷ []) ≡ length xs + 1
longer xs x = length-append xs (x ∷ [])

IsStringAt-more : (done : List Value) (v : Value) (q : ℕ) → IsStringAt done q → IsStringAt (done ++ v ∷ []) q
IsStringAt-more done v q at =
    let within = at.within in
    record {
      within = omega (arith, longer done v);
      string = (at.string.0, value_at-before done v q within ∙ at.string.1);
    }

-- a number is still one where occurrences are added
IsNumber-kept : (found more : List Occurrence) (s : List ℕ) (n : ℕ) → length found ≤ length more → ((k : ℕ) (d : Occurrence) → k < length found → get_or more k d ≡ get_or found k d) → IsNumber found s n → IsNumber more s n
IsNumber-kept found more s n longer_found kept is =
    let low = is.within in
    record {
      within = omega arith;
      string = λ d. ap (λ (o : Occurrence). o.string) (kept n d low) ∙ is.string d;
    }

pub IsGathered-none : (found : List Occurrence) → IsGathered [] [] [] found
IsGathered-none found = record {
  long = refl;
  plain = λ strings p h e. absurd (omega arith);
  strings = λ p s h e. absurd (omega arith);
  at_strings = All-nil (IsStringAt []);
  ascending = λ i j d h k. absurd (omega arith);
}

module _ (done : List Value) (v : Value) (words places : List ℕ) (w : ℕ) (found : List Occurrence) (had : IsGathered done words places found) where
  long : length (words ++ w ∷ []) ≡ length (done ++ v ∷ [])
  long = let had_long = had.long in omega (arith, longer words w, longer done v)

  plain_before : (strings : List (List ℕ)) (p : ℕ) → p < length done → strings_of_value (value_at (done ++ v ∷ []) p) ≡ []
      → HasWord strings (value_at (done ++ v ∷ []) p) × (get_or (words ++ w ∷ []) p 0 ≡ word_of strings (value_at (done ++ v ∷ []) p))
  plain_before strings p less e =
      let same : value_at (done ++ v ∷ []) p ≡ value_at done p = value_at-before done v p less in
      let within : p < length words = let had_long = had.long in omega arith in
      let is = had.plain strings p less (ap strings_of_value (sym same) ∙ e) in (
        subst (HasWord strings) (sym same) is.0,
        get_or_append_left words (w ∷ []) 0 p within ∙ is.1 ∙ ap (word_of strings) (sym same),
      )

  -- the number of a string that stands before the last value
  number_before : (p : ℕ) (s : List ℕ) → p < length done → value_at (done ++ v ∷ []) p ≡ variant.Str s → Contains places p × IsNumber found s (get_or (words ++ w ∷ []) p 0)
  number_before p s less e =
      let within : p < length words = let had_long = had.long in omega arith in
      let was = had.strings p s less (sym (value_at-before done v p less) ∙ e) in
      (was.0, subst (IsNumber found s) (sym (get_or_append_left words (w ∷ []) 0 p within)) was.1)

  -- a value that is no string has its word
  pub IsGathered-plain : strings_of_value v ≡ [] → ((strings : List (List ℕ)) → HasWord strings v × (w ≡ word_of strings v)) → IsGathered (done ++ v ∷ []) (words ++ w ∷ []) places found
  IsGathered-plain none has = record {
    long = long;
    plain = λ strings p h e. elim (cases_lt p (length done)) [
      | inl less ↦ plain_before strings p less e
      | inr end ↦
          let at_end : p ≡ length done = omega (arith, longer done v) in
          let there : p ≡ length words = let had_long = had.long in omega arith in
          let last : value_at (done ++ v ∷ []) p ≡ v = value_at-last done v p at_end in (
            subst (HasWord strings) (sym last) ((has strings).0),
            word-last words w p there ∙ (has strings).1 ∙ ap (word_of strings) (sym last),
          )
    ];
    strings = λ p s h e. elim (cases_lt p (length done)) [
      | inl less ↦ number_before p s less e
      | inr end ↦
          let at_end : p ≡ length done = omega (arith, longer done v) in
          let is : v ≡ variant.Str s = sym (value_at-last done v p at_end) ∙ e in
          let some : s ∷ [] ≡ [] = sym (ap strings_of_value is) ∙ none in
          cc
    ];
    at_strings = λ k d h. IsStringAt-more done v (get_or places k d) (had.at_strings k d h);
    ascending = had.ascending;
  }

  -- a string has its number at its place
  pub IsGathered-string : (s : List ℕ) → v ≡ variant.Str s → (more : List Occurrence) → AddsString found more s w → IsGathered (done ++ v ∷ []) (words ++ w ∷ []) (places ++ length words ∷ []) more
  IsGathered-string s string more added =
      let had_long = had.long in
      let own : IsStringAt (done ++ v ∷ []) (length words) = record { within = omega (arith, longer done v); string = (s, value_at-last done v (length words) had_long ∙ string) } in
      let still : (t : List ℕ) (n : ℕ) → IsNumber found t n → IsNumber more t n =
      λ t n is. IsNumber-kept found more t n added.longer added.kept is in
      record {
        long = long;
        plain = λ strings p h e. elim (cases_lt p (length done)) [
          | inl less ↦ plain_before strings p less e
          | inr end ↦
              let at_end : p ≡ length done = omega (arith, longer done v) in
              let is : value_at (done ++ v ∷ []) p ≡ variant.Str s = value_at-last done v p at_end ∙ string in
              let some : s ∷ [] ≡ [] = sym (ap strings_of_value is) ∙ e in
              absurd (cc)
        ];
        strings = λ p t h e. elim (cases_lt p (length done)) [
          | inl less ↦
              let was = number_before p t less e in
              (Contains-append_left places (length words ∷ []) p was.0, still t (get_or (words ++ w ∷ []) p 0) was.1)
          | inr end ↦
              let at_end : p ≡ length done = omega (arith, longer done v) in
              let there : p ≡ length words = omega arith in
              let is : variant.Str s ≡ variant.Str t = sym string ∙ sym (value_at-last done v p at_end) ∙ e in
              let same : s ≡ t = cc in (
                subst (Contains (places ++ length words ∷ [])) (sym there) (Contains-push places (length words)),
                subst (λ n. IsNumber more t n) (sym (word-last words w p there)) (subst (λ x. IsNumber more x w) same added.number),
              )
        ];
        at_strings = All-push (IsStringAt (done ++ v ∷ [])) places (length words) (λ k d h. IsStringAt-more done v (get_or places k d) (had.at_strings k d h)) own;
        ascending = all_pairs_push (λ p q. p < q) places (length words) had.ascending (λ k d h. let low = (had.at_strings k d h).within in omega arith);
      }

-- ---- numbers of occurrences

-- a string that has a number keeps it
pub AddsString-known : (found : List Occurrence) (s : List ℕ) (n : ℕ) → IsNumber found s n → AddsString found found s n
AddsString-known found s n is = record {
  longer = omega arith;
  kept = λ k d h. refl;
  fresh = λ k d from to. absurd (omega arith);
  numbered = λ are. are;
  number = is;
}

-- a new occurrence has the next number
pub AddsString-new : (found more : List Occurrence) (s : List ℕ) (n : ℕ) → n ≡ length found → more ≡ found ++ record { string = s; place = n } ∷ [] → AddsString found more s n
AddsString-new found more s n at added = subst (λ l. AddsString found l s n) (sym added) (record {
  longer = omega (arith, longer found o);
  kept = λ k d h. get_or_append_left found (o ∷ []) d k h;
  fresh = λ k d from to. ap (λ (x : Occurrence). x.string) (last k d (omega (arith, longer found o)));
  numbered = λ are k d h. elim (cases_lt k (length found)) [
    | inl less ↦ ap (λ (x : Occurrence). x.place) (get_or_append_left found (o ∷ []) d k less) ∙ are k d less
    | inr end ↦ let here : k ≡ length found = omega (arith, longer found o) in ap (λ (x : Occurrence). x.place) (last k d here) ∙ at ∙ sym here
  ];
  number = record {
    within = omega (arith, longer found o);
    string = λ d. ap (λ (x : Occurrence). x.string) (last n d at);
  };
})
  where
    o : Occurrence
    o = record { string = s; place = n }

    last : (k : ℕ) (d : Occurrence) → k ≡ length found → get_or (found ++ o ∷ []) k d ≡ o
    last k d e =
        let end : k ≡ length found + 0 = omega arith in
        ap (λ m. get_or (found ++ o ∷ []) m d) end ∙ get_or-append-add found (o ∷ []) 0 d

-- ---- strings that are added one after another

pub AddsStrings-none : (found : List Occurrence) → AddsStrings found found []
AddsStrings-none found = record {
  longer = omega arith;
  kept = λ k d h. refl;
  fresh = λ k d from to. absurd (omega arith);
  numbered = λ are. are;
}

-- one string is added
pub AddsStrings-one : (old new : List Occurrence) (s : List ℕ) (n : ℕ) → AddsString old new s n → AddsStrings old new (s ∷ [])
AddsStrings-one old new s n added = record {
  longer = added.longer;
  kept = added.kept;
  fresh = λ k d from to. (0, omega arith, sym (added.fresh k d from to));
  numbered = added.numbered;
}

-- some strings, and then others
pub AddsStrings-more : (old mid new : List Occurrence) (strings others : List (List ℕ)) → AddsStrings old mid strings → AddsStrings mid new others → AddsStrings old new (strings ++ others)
AddsStrings-more old mid new strings others first then =
    let longer_first = first.longer in
    let longer_then = then.longer in
    record {
      longer = omega arith;
      kept = λ k d h. then.kept k d (omega arith) ∙ first.kept k d h;
      fresh = λ k d from to. elim (cases_lt k (length mid)) [
        | inl less ↦
            subst (λ (o : Occurrence). Contains (strings ++ others) o.string) (sym (then.kept k d less))
            (Contains-append_left strings others (get_or mid k d).string (first.fresh k d from less))
        | inr end ↦ Contains-append_right strings others (get_or new k d).string (then.fresh k d end to)
      ];
      numbered = λ are. then.numbered (first.numbered are);
    }

-- what was gathered is so under more occurrences
pub IsGathered-kept : (values : List Value) (words places : List ℕ) (old new : List Occurrence) (strings : List (List ℕ)) → AddsStrings old new strings → IsGathered values words places old → IsGathered values words places new
IsGathered-kept values words places old new strings added had = record {
  long = had.long;
  plain = had.plain;
  strings = λ p s h e. let was = had.strings p s h e in (was.0, IsNumber-kept old new s (get_or words p 0) added.longer added.kept was.1);
  at_strings = had.at_strings;
  ascending = had.ascending;
}

-- ---- columns of rows

-- columns without values
pub AreGatheredColumns-none : (columns : List GatheredColumn) → ((c : ℕ) (d : GatheredColumn) → c < length columns → ((get_or columns c d).words.items ≡ []) × ((get_or columns c d).places.items ≡ [])) → (found : List Occurrence) → AreGatheredColumns [] columns found
AreGatheredColumns-none columns empty found c d h =
    let own = empty c d h in
    subst (λ (words : List ℕ). IsGathered [] words (get_or columns c d).places.items found) (sym own.0)
    (subst (λ (places : List ℕ). IsGathered [] [] places found) (sym own.1) (IsGathered-none found))

-- the values of a column of rows and of one row more
values_at-more : (done : List (List Value)) (row : List Value) (c : ℕ) → values_at (done ++ row ∷ []) c ≡ values_at done c ++ value_at row c ∷ []
values_at-more done row c = map-append (λ (r : List Value). value_at r c) done (row ∷ [])

pub AreGatheredUpTo-none : (done : List (List Value)) (row : List Value) (columns : List GatheredColumn) (found : List Occurrence) → AreGatheredColumns done columns found → AreGatheredUpTo done row 0 columns found
AreGatheredUpTo-none done row columns found are = record {
  front = λ c d h. absurd (omega arith);
  rest = λ c d from to. are c d to;
}

-- the value of the next column is added
pub AreGatheredUpTo-more : (done : List (List Value)) (row : List Value) (place : ℕ) (columns new : List GatheredColumn) (own : GatheredColumn) (old later : List Occurrence) (strings : List (List ℕ)) → place < length columns → new ≡ set columns place own → AddsStrings old later strings
    → IsGathered (values_at done place ++ value_at row place ∷ []) own.words.items own.places.items later
    → AreGatheredUpTo done row place columns old → AreGatheredUpTo done row (place + 1) new later
AreGatheredUpTo-more done row place columns new own old later strings there is added got had = subst (λ (cs : List GatheredColumn). AreGatheredUpTo done row (place + 1) cs later) (sym is) (record {
  front = λ c d h. elim (cases_lt c place) [
    | inl less ↦
        subst (λ (g : GatheredColumn). IsGathered (values_at (done ++ row ∷ []) c) g.words.items g.places.items later) (sym (other c d (λ (e : c ≡ place). omega arith)))
        (IsGathered-kept (values_at (done ++ row ∷ []) c) (get_or columns c d).words.items (get_or columns c d).places.items old later strings added (had.front c d less))
    | inr end ↦
        let same : place ≡ c = omega arith in
        subst (λ n. IsGathered (values_at (done ++ row ∷ []) n) (get_or (set columns place own) n d).words.items (get_or (set columns place own) n d).places.items later) same
        (subst (λ (g : GatheredColumn). IsGathered (values_at (done ++ row ∷ []) place) g.words.items g.places.items later) (sym (get_or-set_same columns place own d there))
        (subst (λ (vs : List Value). IsGathered vs own.words.items own.places.items later) (sym (values_at-more done row place)) got))
  ];
  rest = λ c d from to.
      let within : c < length columns = omega (arith, length-set columns place own) in
      subst (λ (g : GatheredColumn). IsGathered (values_at done c) g.words.items g.places.items later) (sym (other c d (λ (e : c ≡ place). omega arith)))
      (IsGathered-kept (values_at done c) (get_or columns c d).words.items (get_or columns c d).places.items old later strings added (had.rest c d (omega arith) within));
})
  where
    other : (c : ℕ) (d : GatheredColumn) → c ≢ place → get_or (set columns place own) c d ≡ get_or columns c d
    other c d ne = get_or-set_other columns place c own d ne

-- rows whose columns were gathered are so under more occurrences
pub IsGatheredPart-kept : (rows : List (List Value)) (width : ℕ) (part : GatheredPart) (old new : List Occurrence) (strings : List (List ℕ)) → AddsStrings old new strings → IsGatheredPart rows width part old → IsGatheredPart rows width part new
IsGatheredPart-kept rows width part old new strings added had = record {
  wide = had.wide;
  as_wide = had.as_wide;
  counted = had.counted;
  many = had.many;
  columns = λ c d h. IsGathered-kept (values_at rows c) (get_or part.columns.items c d).words.items (get_or part.columns.items c d).places.items old new strings added (had.columns c d h);
}

-- one part more
pub AreGathered-more : (widths : List ℕ) (parts : List (List (List Value))) (place : ℕ) (gathered : List GatheredPart) (part : GatheredPart) (old new : List Occurrence) (strings : List (List ℕ)) → place < length parts → AddsStrings old new strings
    → IsGatheredPart (get_or parts place []) (get_or widths place 0) part new → AreGathered widths (take place parts) gathered old → AreGathered widths (take (place + 1) parts) (gathered ++ part ∷ []) new
AreGathered-more widths parts place gathered part old new strings there added own had = record {
  many = let many = had.many in omega (arith, length-append gathered (part ∷ []), so_far, with_next);
  each = λ j d h. elim (cases_lt j place) [
    | inl less ↦
        let many = had.many in
        let rows : get_or (take (place + 1) parts) j [] ≡ get_or (take place parts) j [] = get_or-take (place + 1) parts j [] (omega arith) ∙ sym (get_or-take place parts j [] less) in
        subst (λ (g : GatheredPart). IsGatheredPart (get_or (take (place + 1) parts) j []) (get_or widths j 0) g new) (sym (get_or_append_left gathered (part ∷ []) d j (omega (arith, so_far))))
        (subst (λ (rs : List (List Value)). IsGatheredPart rs (get_or widths j 0) (get_or gathered j d) new) (sym rows)
        (IsGatheredPart-kept (get_or (take place parts) j []) (get_or widths j 0) (get_or gathered j d) old new strings added (had.each j d (omega (arith, so_far)))))
    | inr end ↦
        let many = had.many in
        let same : place ≡ j = omega (arith, with_next) in
        let at : j ≡ length gathered + 0 = omega (arith, so_far) in
        let last : get_or (gathered ++ part ∷ []) j d ≡ part = ap (λ n. get_or (gathered ++ part ∷ []) n d) at ∙ get_or-append-add gathered (part ∷ []) 0 d in
        let rows : get_or (take (place + 1) parts) j [] ≡ get_or parts j [] = get_or-take (place + 1) parts j [] (omega arith) in
        subst (λ (g : GatheredPart). IsGatheredPart (get_or (take (place + 1) parts) j []) (get_or widths j 0) g new) (sym last)
        (subst (λ (rs : List (List Value)). IsGatheredPart rs (get_or widths j 0) part new) (sym rows)
        (subst (λ n. IsGatheredPart (get_or parts n []) (get_or widths n 0) part new) same own))
  ];
}
  where
    so_far : length (take place parts) ≡ place
    so_far = length-take-le place parts (omega arith)

    with_next : length (take (place + 1) parts) ≡ place + 1
    with_next = length-take-le (place + 1) parts (omega arith)

-- a row behind others has their width
pub next_wide : (so_far left rows : List (List Value)) (row : List Value) (width : ℕ) → so_far ++ row ∷ left ≡ rows → All (λ r. length r ≡ width) rows → length row ≡ width
next_wide so_far left rows row width is wide =
    let all : All (λ r. length r ≡ width) (so_far ++ row ∷ left) = subst (All (λ (r : List Value). length r ≡ width)) (sym is) wide in
    sym (ap length (get_or-append-add so_far (row ∷ left) 0 [])) ∙ all (length so_far + 0) [] (omega (arith, length-append so_far (row ∷ left)))
