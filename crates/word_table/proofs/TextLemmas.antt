-- Texts one behind another: what one text more changes, and where a text is cut out.
use Rattle.std.proofs.Common.{◌≡◌, ℕ, ◌+◌, ◌-◌, ◌<◌, ◌≤◌, List, [], ◌∷◌, ◌++◌, All, length, get_or, take, drop, refl, ap, ◌∙◌, sym, subst, arith, inl, inr, length-append}
use Rattle.std.specs.Str.{IsUtf8, IsCharBoundary}
use Rattle.std.proofs.lemmas.Bool.{cases_lt}
use Rattle.std.proofs.lemmas.List.{drop-append-le, drop_at, get_or_append_left, get_or_push, length-drop, length_push, same_lists, take-append-le, take_all}
use Rattle.std.proofs.lemmas.List.FromFn.{get_or-map-range_with_len, length-map-range_with_len, map-range_with_len_more}
use Rattle.std.proofs.lemmas.Str.{IsCharBoundary-at_seam, IsCharBoundary-end}
use Rattle.word_table.specs.declared.text_keys.TextKeys.{TextKeys}
use Rattle.word_table.specs.inner.TextKeys.{AreKeysOf}
use Rattle.word_table.specs.inner.Texts.{text_at, texts_in, AreTexts}

pub length-texts : (bytes starts : List ℕ) (count : ℕ)
    → length (texts_in bytes starts count) ≡ count
length-texts bytes starts count = length-map-range_with_len (text_at bytes starts) 0 count

pub get_or-texts : (bytes starts : List ℕ) (count place : ℕ) (d : List ℕ) → place < count
    → get_or (texts_in bytes starts count) place d ≡ text_at bytes starts place
get_or-texts bytes starts count place d h =
    get_or-map-range_with_len (text_at bytes starts) 0 count place place d h (omega arith)

-- where bytes may be cut, they may be cut when a text follows them
pub cut-more : (bytes more : List ℕ) (place : ℕ) → IsUtf8 more → IsCharBoundary bytes place
    → IsCharBoundary (bytes ++ more) place
cut-more bytes more place u at =
    elim (cases_lt place (length bytes)) [
      | inl within ↦
          let same : get_or (bytes ++ more) place 0 ≡ get_or bytes place 0 =
          get_or_append_left bytes more 0 place within in
          let lead : 128 ≤ get_or bytes place 0 → 192 ≤ get_or bytes place 0 = at.1 within in
          (omega (arith, length-append bytes more), λ _ high. rw same (lead (rw same at high)))
      | inr end ↦
          let behind : length bytes ≡ place = omega (arith, at.0) in
          subst (IsCharBoundary (bytes ++ more)) behind
          (IsCharBoundary-at_seam (bytes ++ more) bytes more refl u)
    ]

-- the first texts are these strings, and the bytes end with the last of them
pub record AreCopies (strings : List (List ℕ)) (bytes starts : List ℕ) (keys : List TextKeys)
    : Type 0 where
  pub texts : AreTexts bytes starts keys
  pub full : get_or starts (length keys) 0 ≡ length bytes
  pub are : texts_in bytes starts (length keys) ≡ strings

pub AreCopies-none : AreCopies [] [] (0 ∷ []) []
AreCopies-none = record {
  texts = record {
    many = refl;
    cut = λ k d h.
        let first : k ≡ 0 = omega arith in
        subst (λ n. IsCharBoundary [] (get_or (0 ∷ []) n d)) (sym first) (IsCharBoundary-end []);
    in_turn = λ k h. absurd (omega arith);
    keyed = λ k d h. absurd (omega arith);
  };
  full = refl;
  are = refl;
}

module _ (strings : List (List ℕ)) (bytes starts : List ℕ) (keys : List TextKeys)
    (had : AreCopies strings bytes starts keys)
    (s : List ℕ) (u : IsUtf8 s) (key : TextKeys) (keyed : AreKeysOf s key) where
  abbrev end : ℕ
  end = length (bytes ++ s)

  longer : end ≡ length bytes + length s
  longer = length-append bytes s

  many : length starts ≡ length keys + 1
  many = had.texts.many

  start-kept : (place : ℕ) → place < length keys + 1
      → get_or (starts ++ end ∷ []) place 0 ≡ get_or starts place 0
  start-kept place h = get_or_append_left starts (end ∷ []) 0 place (omega (arith, many))

  start-last : (place : ℕ) → place ≡ length keys + 1
      → get_or (starts ++ end ∷ []) place 0 ≡ end
  start-last place e = get_or_push starts end 0 place (omega (arith, many))

  within : (place : ℕ) → place < length keys + 1 → get_or starts place 0 ≤ length bytes
  within place h = (had.texts.cut place 0 (omega (arith, many))).0

  text-kept : (place : ℕ) → place < length keys
      → text_at (bytes ++ s) (starts ++ end ∷ []) place ≡ text_at bytes starts place
  text-kept place h =
      let start : ℕ = get_or starts place 0 in
      let stop : ℕ = get_or starts (place + 1) 0 in
      let first : get_or (starts ++ end ∷ []) place 0 ≡ start = start-kept place (omega arith) in
      let last : get_or (starts ++ end ∷ []) (place + 1) 0 ≡ stop =
      start-kept (place + 1) (omega arith) in
      let up : start ≤ stop = had.texts.in_turn place h in
      let low : stop ≤ length bytes = within (place + 1) (omega arith) in
      let left : length (drop start bytes) ≡ length bytes - start = length-drop start bytes in
      (λ i. take (last i - first i) (drop (first i) (bytes ++ s)))
      ∙ ap (take (stop - start)) (drop-append-le start bytes s (omega arith))
      ∙ take-append-le (stop - start) (drop start bytes) s (omega arith)

  text-last : (place : ℕ) → place ≡ length keys
      → text_at (bytes ++ s) (starts ++ end ∷ []) place ≡ s
  text-last place e =
      let first : get_or (starts ++ end ∷ []) place 0 ≡ length bytes =
      start-kept place (omega arith) ∙ ap (λ n. get_or starts n 0) e ∙ had.full in
      let last : get_or (starts ++ end ∷ []) (place + 1) 0 ≡ end =
      start-last (place + 1) (omega arith) in
      let size : end - length bytes ≡ length s = omega (arith, longer) in
      (λ i. take (last i - first i) (drop (first i) (bytes ++ s)))
      ∙ ap (take (end - length bytes)) (drop_at bytes s (length bytes) refl)
      ∙ take_all (end - length bytes) s (omega arith)

  cut : All (IsCharBoundary (bytes ++ s)) (starts ++ end ∷ [])
  cut k d h =
      elim (cases_lt k (length starts)) [
        | inl before ↦
            subst (IsCharBoundary (bytes ++ s))
            (sym (get_or_append_left starts (length (bytes ++ s) ∷ []) d k before))
            (cut-more bytes s (get_or starts k d) u (had.texts.cut k d before))
        | inr last ↦
            let long = length_push starts (length (bytes ++ s)) in
            subst (IsCharBoundary (bytes ++ s))
            (sym (get_or_push starts (length (bytes ++ s)) d k (omega arith)))
            (IsCharBoundary-end (bytes ++ s))
      ]

  in_turn : (k : ℕ) → k < length (keys ++ key ∷ [])
      → get_or (starts ++ end ∷ []) k 0 ≤ get_or (starts ++ end ∷ []) (k + 1) 0
  in_turn k h =
      let first : get_or (starts ++ end ∷ []) k 0 ≡ get_or starts k 0 =
      start-kept k (omega (arith, length_push keys key)) in
      elim (cases_lt k (length keys)) [
        | inl before ↦
            let last : get_or (starts ++ end ∷ []) (k + 1) 0 ≡ get_or starts (k + 1) 0 =
            start-kept (k + 1) (omega arith) in
            let up : get_or starts k 0 ≤ get_or starts (k + 1) 0 = had.texts.in_turn k before in
            omega arith
        | inr now ↦
            let last : get_or (starts ++ end ∷ []) (k + 1) 0 ≡ end =
            start-last (k + 1) (omega (arith, length_push keys key)) in
            let low : get_or starts k 0 ≤ length bytes =
            within k (omega (arith, length_push keys key)) in
            omega (arith, longer)
      ]

  all_keyed : (k : ℕ) (d : TextKeys) → k < length (keys ++ key ∷ [])
      → AreKeysOf (text_at (bytes ++ s) (starts ++ end ∷ []) k) (get_or (keys ++ key ∷ []) k d)
  all_keyed k d h =
      elim (cases_lt k (length keys)) [
        | inl before ↦
            subst (AreKeysOf (text_at (bytes ++ s) (starts ++ end ∷ []) k))
            (sym (get_or_append_left keys (key ∷ []) d k before))
            (subst (λ t. AreKeysOf t (get_or keys k d)) (sym (text-kept k before))
            (had.texts.keyed k d before))
        | inr now ↦
            let last : k ≡ length keys = omega (arith, length_push keys key) in
            subst (AreKeysOf (text_at (bytes ++ s) (starts ++ end ∷ []) k))
            (sym (get_or_push keys key d k (sym last)))
            (subst (λ t. AreKeysOf t key) (sym (text-last k last)) keyed)
      ]

  -- the texts with one more behind them
  pub AreCopies-more : AreCopies (strings ++ s ∷ [])
      (bytes ++ s) (starts ++ length (bytes ++ s) ∷ []) (keys ++ key ∷ [])
  AreCopies-more = record {
    texts = record {
      many = length_push starts end ∙ ap (λ n. n + 1) (many ∙ sym (length_push keys key));
      cut = cut;
      in_turn = in_turn;
      keyed = all_keyed;
    };
    full = start-last (length (keys ++ key ∷ [])) (length_push keys key);
    are =
        ap (texts_in (bytes ++ s) (starts ++ end ∷ [])) (length_push keys key)
        ∙ map-range_with_len_more (text_at (bytes ++ s) (starts ++ end ∷ []))
        0 (length keys) (length keys) (omega arith)
        ∙ (λ i. (kept i) ++ text-last (length keys) refl i ∷ [])
        ∙ ap (λ l. l ++ s ∷ []) had.are;
  }
    where
      kept : texts_in (bytes ++ s) (starts ++ length (bytes ++ s) ∷ []) (length keys)
          ≡ texts_in bytes starts (length keys)
      kept =
          same_lists _ _
          (length-texts (bytes ++ s) (starts ++ end ∷ []) (length keys)
          ∙ sym (length-texts bytes starts (length keys)))
          (λ k d h.
          let there : k < length keys =
          omega (arith, length-texts (bytes ++ s) (starts ++ end ∷ []) (length keys)) in
          get_or-texts (bytes ++ s) (starts ++ end ∷ []) (length keys) k d there
          ∙ text-kept k there
          ∙ sym (get_or-texts bytes starts (length keys) k d there))

  pub AreCopies-next : (more : List (List ℕ)) (letters places : List ℕ) (marks : List TextKeys)
      (stop : ℕ) → more ≡ strings ++ s ∷ [] → letters ≡ bytes ++ s → stop ≡ length letters
      → places ≡ starts ++ stop ∷ [] → marks ≡ keys ++ key ∷ []
      → AreCopies more letters places marks
  AreCopies-next more letters places marks stop list_is bytes_are stops starts_are keys_are =
      let places_are : places ≡ starts ++ end ∷ [] =
      starts_are ∙ ap (λ n. starts ++ n ∷ []) (stops ∙ ap length bytes_are) in
      subst (λ l. AreCopies l letters places marks) (sym list_is)
      (subst (λ l. AreCopies (strings ++ s ∷ []) l places marks) (sym bytes_are)
      (subst (λ l. AreCopies (strings ++ s ∷ []) (bytes ++ s) l marks) (sym places_are)
      (subst (λ l. AreCopies (strings ++ s ∷ []) (bytes ++ s) (starts ++ end ∷ []) l)
      (sym keys_are) AreCopies-more)))

-- texts that are seen as a list of strings: each stands at its place, and its keys beside it
module _ (bytes starts : List ℕ) (keys : List TextKeys) (texts : List (List ℕ))
    (seen : texts_in bytes starts (length keys) ≡ texts) (are : AreTexts bytes starts keys) where
  pub count_is : length keys ≡ length texts
  count_is = sym (length-texts bytes starts (length keys)) ∙ ap length seen

  pub text_is : (place : ℕ) (d : List ℕ) → place < length texts
      → text_at bytes starts place ≡ get_or texts place d
  text_is place d h =
      let there : place < length keys = omega (arith, count_is) in
      sym (get_or-texts bytes starts (length keys) place d there)
      ∙ ap (λ (l : List (List ℕ)). get_or l place d) seen

  pub keys_are : (place : ℕ) (d : List ℕ) (e : TextKeys) → place < length texts
      → AreKeysOf (get_or texts place d) (get_or keys place e)
  keys_are place d e h =
      subst (λ t. AreKeysOf t (get_or keys place e)) (text_is place d h)
      (are.keyed place e (omega (arith, count_is)))
