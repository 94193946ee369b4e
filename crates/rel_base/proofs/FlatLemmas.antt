-- Rows that stand in one list of values.
use Rattle.std.proofs.Common.{◌≡◌, ◌∙◌, ℕ, zero, suc, ◌+◌, ◌-◌, ◌*◌, ◌%◌, ◌^◌, ◌<◌, ◌≤◌, List, [], ◌∷◌, ◌++◌, length, get_or, take, drop, All, refl, sym, ap, subst, arith, length-drop}
use Rattle.std.proofs.Math.Nat.{mul-le-mul_left}
use Rattle.std.proofs.Math.Seq.{drop-append_seam}
use Rattle.std.proofs.lemmas.List.{drop-append-le, drop-take, get_or-drop, get_or-map, get_or-take, length-map, length-take-le, map-append, same_lists, take-append-le}
use Rattle.rel_base.specs.Picks.{items_at}
use Rattle.rel_base.specs.inner.Flat.{row_from, rows_from}
use Rattle.rel_base.specs.inner.Strides.{stepped}
use Rattle.rel_base.proofs.PickLemmas.{get_or-stepped, length-stepped, map-agree, one_item, stepped_more}
use Rattle.rel_base.proofs.RangeLemmas.{stepped-first}

module _ {X : Type 0} where
  -- as many rows as begin somewhere
  pub length-rows : (w s t n : ℕ) (vs : List X) → length (rows_from w vs (stepped s t n)) ≡ n
  length-rows w s t n vs = length-map (stepped s t n) (row_from w vs) ∙ length-stepped s t n

  -- row number i
  pub row_number : (w s t n i : ℕ) (vs d : List X) → i < n
      → get_or (rows_from w vs (stepped s t n)) i d ≡ take w (drop (s + t * i) vs)
  row_number w s t n i vs d low =
      get_or-map (row_from w vs) (stepped s t n) i 0 d (rw (length-stepped s t n) low)
      ∙ ap (row_from w vs) (get_or-stepped s t n i 0 low)

  -- where a row of a full list ends
  pub row_end : (w n i : ℕ) (vs : List X) → length vs ≡ w * n → i < n → w * i + w ≤ length vs
  row_end w n i vs full low =
      let up = mul-le-mul_left w (least low) in omega (arith, up, full)
    where
      least : i < n → i + 1 ≤ n
      least h = omega arith

  -- each row has the width
  pub rows_width : (w n : ℕ) (vs : List X) → length vs ≡ w * n → All (λ r. length r ≡ w) (rows_from w vs (stepped 0 w n))
  rows_width w n vs full k d low =
      let inside : k < n = omega (arith, low, length-rows w 0 w n vs) in
      let end = row_end w n k vs full inside in
      ap length (row_number w 0 w n k vs d inside)
      ∙ length-take-le w (drop (0 + w * k) vs) (omega (arith, end, length-drop (0 + w * k) vs))

  -- the first row tells the width
  pub width_of_first : (w n m : ℕ) (vs : List X) → length vs ≡ w * n → 0 < n
      → All (λ r. length r ≡ m) (rows_from w vs (stepped 0 w n)) → w ≡ m
  width_of_first w n m vs full some all =
      let low : 0 < length (rows_from w vs (stepped 0 w n)) = omega (arith, some, length-rows w 0 w n vs) in
      sym (rows_width w n vs full 0 [] low) ∙ all 0 [] low

  -- rows that all have a width are rows of this width
  pub rows_of_width : (w m n : ℕ) (vs : List X) → length vs ≡ w * n → All (λ r. length r ≡ m) (rows_from w vs (stepped 0 w n))
      → (length vs ≡ m * n) × (rows_from m vs (stepped 0 m n) ≡ rows_from w vs (stepped 0 w n))
  rows_of_width w m zero vs full all = (omega (arith, full), refl)
  rows_of_width w m (suc n) vs full all =
      let Same : ℕ → Type 0 = λ k. (length vs ≡ k * suc n) × (rows_from k vs (stepped 0 k (suc n)) ≡ rows_from w vs (stepped 0 w (suc n))) in
      subst Same (width_of_first w (suc n) m vs full (omega arith) all) (full, refl)

  -- a row that begins in front of the end is there whatever stands behind
  row_in_front : (w p : ℕ) (vs more : List X) → p + w ≤ length vs → row_from w (vs ++ more) p ≡ row_from w vs p
  row_in_front w p vs more room =
      ap (take w) (drop-append-le p vs more (omega (arith, room)))
      ∙ take-append-le w (drop p vs) more (omega (arith, room, length-drop p vs))

  -- one row more
  pub rows_more : (w n : ℕ) (vs row : List X) → length vs ≡ w * n → length row ≡ w
      → rows_from w (vs ++ row) (stepped 0 w (n + 1)) ≡ rows_from w vs (stepped 0 w n) ++ row ∷ []
  rows_more w n vs row full wide =
      let next : n + 1 ≡ suc n = omega arith in
      let places = ap (stepped 0 w) next ∙ stepped_more 0 w n in
      let last : 0 + w * n ≡ length vs = omega (arith, full) in
      let front = map-agree (row_from w (vs ++ row)) (row_from w vs) (stepped 0 w n)
      (λ k d low.
      let inside : k < n = omega (arith, low, length-stepped 0 w n) in
      row_in_front w (get_or (stepped 0 w n) k d) vs row
      (omega (arith, get_or-stepped 0 w n k d inside, row_end w n k vs full inside))) in
      let behind : row_from w (vs ++ row) (0 + w * n) ≡ row =
      ap (row_from w (vs ++ row)) last ∙ ap (take w) (drop-append_seam vs row) ∙ whole w row wide in
      ap (rows_from w (vs ++ row)) places ∙ map-append (row_from w (vs ++ row)) (stepped 0 w n) ((0 + w * n) ∷ [])
      ∙ ap (λ ys. ys ++ row_from w (vs ++ row) (0 + w * n) ∷ []) front
      ∙ ap (λ r. rows_from w vs (stepped 0 w n) ++ r ∷ []) behind
    where
      whole : (m : ℕ) (xs : List X) → length xs ≡ m → take m xs ≡ xs
      whole zero [] e = refl
      whole zero (x ∷ xs) e = absurd (omega (arith, e))
      whole (suc m) [] e = absurd (omega (arith, e))
      whole (suc m) (x ∷ xs) e = ap (λ ys. x ∷ ys) (whole m xs (omega (arith, e)))

  -- rows some distance apart are rows at places
  pub rows_apart : (w s t m n : ℕ) (vs : List X) → All (λ i. i < n) (stepped s t m)
      → rows_from w vs (stepped (w * s) (w * t) m) ≡ items_at (rows_from w vs (stepped 0 w n)) (stepped s t m)
  rows_apart w s t zero n vs within = refl
  rows_apart w s t (suc m) n vs within =
      let low : s < n = within 0 0 (omega arith) in
      let inside : s < length (rows_from w vs (stepped 0 w n)) = omega (arith, low, length-rows w 0 w n vs) in
      let here : row_from w vs (w * s) ≡ get_or (rows_from w vs (stepped 0 w n)) s [] =
      ap (row_from w vs) (omega arith) ∙ sym (row_number w 0 w n s vs [] low) in
      let next : w * s + w * t ≡ w * (s + t) = grind arith in
      let rest = ap (λ p. rows_from w vs (stepped p (w * t) m)) next
      ∙ rows_apart w (s + t) t m n vs (λ k d less. within (suc k) d (omega (arith, less))) in
      ap (λ r. r ∷ rows_from w vs (stepped (w * s + w * t) (w * t) m)) here
      ∙ ap (λ rs. get_or (rows_from w vs (stepped 0 w n)) s [] ∷ rs) rest
      ∙ sym (ap (λ rs. rs ++ items_at (rows_from w vs (stepped 0 w n)) (stepped (s + t) t m)) (one_item (rows_from w vs (stepped 0 w n)) s [] inside))

  -- they end within the values
  pub rows_apart_within : (w s t m n : ℕ) (vs : List X) → length vs ≡ w * n → All (λ i. i < n) (stepped s t m)
      → All (λ p. p + w ≤ length vs) (stepped (w * s) (w * t) m)
  rows_apart_within w s t m n vs full within k d low =
      let inside : k < m = omega (arith, low, length-stepped (w * s) (w * t) m) in
      let place = get_or-stepped (w * s) (w * t) m k d inside in
      let number = get_or-stepped s t m k 0 inside in
      let below : s + t * k < n = omega (arith, number, within k 0 (omega (arith, inside, length-stepped s t m))) in
      let product : w * s + w * t * k ≡ w * (s + t * k) = grind arith in
      omega (arith, place, product, row_end w n (s + t * k) vs full below)

  -- a row that begins in a part of the values
  row_in_part : (w L p k : ℕ) (vs : List X) → k + w ≤ L → take w (drop k (take L (drop p vs))) ≡ take w (drop (p + k) vs)
  row_in_part w L p k vs room =
      let long : k + (L - k) ≡ L = omega (arith, room) in
      let short : w ≤ L - k = omega (arith, room) in
      ap (λ n. take w (drop k (take n (drop p vs)))) (sym long) ∙ ap (take w) (drop-take k (L - k) (drop p vs))
      ∙ take_of_take w (L - k) (drop k (drop p vs)) short ∙ ap (take w) (drop_of_drop p k vs)
    where
      take_of_take : (m n : ℕ) (xs : List X) → m ≤ n → take m (take n xs) ≡ take m xs
      take_of_take zero n xs low = refl
      take_of_take (suc m) zero xs low = absurd (omega (arith, low))
      take_of_take (suc m) (suc n) [] low = refl
      take_of_take (suc m) (suc n) (x ∷ xs) low = ap (λ ys. x ∷ ys) (take_of_take m n xs (omega (arith, low)))

      drop_of_drop : (m n : ℕ) (xs : List X) → drop n (drop m xs) ≡ drop (m + n) xs
      drop_of_drop zero n xs = ap (λ k. drop k xs) (omega arith)
      drop_of_drop (suc m) n [] = by_nothing n ∙ sym (by_nothing (suc m + n))
        where
          by_nothing : (k : ℕ) → drop {A = X} k [] ≡ []
          by_nothing zero = refl
          by_nothing (suc k) = refl
      drop_of_drop (suc m) n (x ∷ xs) =
          let more : suc m + n ≡ suc (m + n) = omega arith in
          drop_of_drop m n xs ∙ sym (ap (λ k. drop k (x ∷ xs)) more)

  -- where rows one after another end
  pub part_ends : (w from m n : ℕ) (vs : List X) → length vs ≡ w * n → from + m ≤ n → w * from + w * m ≤ length vs
  part_ends w from m n vs full room =
      let sum : w * (from + m) ≡ w * from + w * m = grind arith in
      omega (arith, mul-le-mul_left w room, sum, full)

  -- rows one after another are those of their part of the values
  pub rows_in_part : (w from m n : ℕ) (vs : List X) → from + m ≤ n
      → rows_from w (take (w * m) (drop (w * from) vs)) (stepped 0 w m) ≡ take m (drop from (rows_from w vs (stepped 0 w n)))
  rows_in_part w from m n vs room =
      let rows = rows_from w vs (stepped 0 w n) in
      let part = take (w * m) (drop (w * from) vs) in
      let many = length-rows w 0 w n vs in
      let right : length (take m (drop from rows)) ≡ m =
      length-take-le m (drop from rows) (omega (arith, room, many, length-drop from rows)) in
      let left = length-rows w 0 w m part in
      same_lists (rows_from w part (stepped 0 w m)) (take m (drop from rows)) (left ∙ sym right)
      (λ k d low.
      let inside : k < m = omega (arith, low, left) in
      let up = mul-le-mul_left w (least k m inside) in
      let more : w * (k + 1) ≡ w * k + w = grind arith in
      let place : w * from + (0 + w * k) ≡ 0 + w * (from + k) = grind arith in
      row_number w 0 w m k part d inside ∙ row_in_part w (w * m) (w * from) (0 + w * k) vs (omega (arith, up, more))
      ∙ ap (row_from w vs) place ∙ sym (row_number w 0 w n (from + k) vs d (omega (arith, inside, room)))
      ∙ sym (get_or-drop from rows k d) ∙ sym (get_or-take m (drop from rows) k d inside))
    where
      least : (k m : ℕ) → k < m → k + 1 ≤ m
      least k m h = omega arith

  -- the first of rows some distance apart
  pub first_row : (w next step len : ℕ) (vs : List X) → 0 < len → length vs < 2 ^ 64
      → All (λ p. p + w ≤ length vs) (stepped next step len)
      → rows_from w vs (stepped next step len)
      ≡ take w (drop next vs) ∷ rows_from w vs (stepped ((next + step) % 2 ^ 64) step (len - 1))
  first_row w next step len vs some few within =
      ap (rows_from w vs) (stepped-first (2 ^ 64) next step len some (λ k d low. omega (arith, few, within k d low)))

  -- and those behind it end within the values too
  pub rest_within_values : (w next step len : ℕ) (vs : List X) → 0 < len → length vs < 2 ^ 64
      → All (λ p. p + w ≤ length vs) (stepped next step len)
      → All (λ p. p + w ≤ length vs) (stepped ((next + step) % 2 ^ 64) step (len - 1))
  rest_within_values w next step len vs some few within =
      let same = stepped-first (2 ^ 64) next step len some (λ k d low. omega (arith, few, within k d low)) in
      let all : All (λ p. p + w ≤ length vs) (next ∷ stepped ((next + step) % 2 ^ 64) step (len - 1)) = rw same at within in
      λ k d low. all (suc k) d (omega (arith, low))
