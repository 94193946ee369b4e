-- Sums over workers and atoms.
use Rattle.std.proofs.Common.{◌≡◌, ◌≢◌, ◌==◌, ℕ, zero, suc, ◌+◌, ◌*◌, ◌<◌, ◌≤◌, Bool, true, false, cond, List, [], ◌∷◌, ◌++◌, length, get_or, All, refl, sym, ap, ◌∙◌, subst, arith, ⊎_elim, eq-eqb, ne_eqb}
use Rattle.std.specs.Prelude.{sum_by, IsPermutation}
use Rattle.std.specs.List.{flat_map, range_with_len}
use Rattle.std.specs.Ordering.{is_eq}
use Rattle.std.proofs.lemmas.Bool.{cases_lt}
use Rattle.std.proofs.lemmas.List.Concat.{flat_map-cons}
use Rattle.std.proofs.lemmas.List.Sums.{sum_by-append, sum_by-cons}
use Rattle.std.proofs.lemmas.List.Elements.{All-head, All-tail}
use Rattle.std.proofs.lemmas.List.Sorted.{IsPermutation-sym, IsPermutation-trans, sum_by-IsPermutation}
use Rattle.rel_base.specs.Bags.{sorted_by}
use Rattle.rel_base.specs.Values.{row_order}
use Rattle.rel_base.specs.ValueLaws.{row_order_total, row_order-IsAntisymmetric}
use Rattle.rel_base.proofs.SortedLemmas.{occurrences, occurrences-IsPermutation, same_counts, Ascending-sorted_by, IsPermutation-sorted_by}
use Rattle.row_exchange.specs.Routes.{Row, Rows}
use Rattle.row_exchange.proofs.FillingLemmas.{sum_by-range_more}

-- sums of functions that agree
pub sum_by-same : {X : Type 0} (f g : X → ℕ) (xs : List X) → ((k : ℕ) (d : X) → k < length xs → f (get_or xs k d) ≡ g (get_or xs k d)) → sum_by f xs ≡ sum_by g xs
sum_by-same f g [] same = refl
sum_by-same f g (x ∷ xs) same =
    omega (arith, sum_by-cons f x xs, sum_by-cons g x xs, same 0 x (omega arith), sum_by-same f g xs (λ k d below. same (suc k) d (omega arith)))

-- sums over numbers of functions that agree on them
pub sum_by-range_same : (f g : ℕ → ℕ) (n : ℕ) → ((k : ℕ) → k < n → f k ≡ g k) → sum_by f (range_with_len 0 n) ≡ sum_by g (range_with_len 0 n)
sum_by-range_same f g zero same = refl
sum_by-range_same f g (suc n) same =
    let more : suc n ≡ n + 1 = omega arith in
    ap (λ (k : ℕ). sum_by f (range_with_len 0 k)) more ∙ sum_by-range_more f n
    ∙ (let both : sum_by f (range_with_len 0 n) + f n ≡ sum_by g (range_with_len 0 n) + g n = omega (arith, sum_by-range_same f g n (λ k below. same k (omega arith)), same n (omega arith)) in both)
    ∙ sym (ap (λ (k : ℕ). sum_by g (range_with_len 0 k)) more ∙ sum_by-range_more g n)

pub sum_by-range_add : (f g : ℕ → ℕ) (n : ℕ) → sum_by (λ k. f k + g k) (range_with_len 0 n) ≡ sum_by f (range_with_len 0 n) + sum_by g (range_with_len 0 n)
sum_by-range_add f g zero = refl
sum_by-range_add f g (suc n) =
    let more : suc n ≡ n + 1 = omega arith in
    omega (
      arith,
      ap (λ (k : ℕ). sum_by (λ k. f k + g k) (range_with_len 0 k)) more,
      ap (λ (k : ℕ). sum_by f (range_with_len 0 k)) more,
      ap (λ (k : ℕ). sum_by g (range_with_len 0 k)) more,
      sum_by-range_more (λ k. f k + g k) n,
      sum_by-range_more f n,
      sum_by-range_more g n,
      sum_by-range_add f g n,
    )

pub sum_by-range_zero : (n : ℕ) → sum_by (λ (k : ℕ). 0) (range_with_len 0 n) ≡ 0
sum_by-range_zero zero = refl
sum_by-range_zero (suc n) = let more : suc n ≡ n + 1 = omega arith in
    omega (arith, ap (λ (k : ℕ). sum_by (λ (j : ℕ). 0) (range_with_len 0 k)) more, sum_by-range_more (λ (k : ℕ). 0) n, sum_by-range_zero n)

-- a sum of which one place alone counts
pub sum_by-range_past : (x r n : ℕ) → n ≤ x → sum_by (λ k. cond (x == k) r 0) (range_with_len 0 n) ≡ 0
sum_by-range_past x r n past = sum_by-range_same (λ k. cond (x == k) r 0) (λ (k : ℕ). 0) n (λ k below. let ne : x ≢ k = omega arith in ap (λ (b : Bool). cond b r 0) (ne_eqb x k ne)) ∙ sum_by-range_zero n

pub sum_by-range_once : (x r n : ℕ) → x < n → sum_by (λ k. cond (x == k) r 0) (range_with_len 0 n) ≡ r
sum_by-range_once x r zero below = absurd (omega arith)
sum_by-range_once x r (suc n) below =
    let more : suc n ≡ n + 1 = omega arith in
    let step = ap (λ (k : ℕ). sum_by (λ k. cond (x == k) r 0) (range_with_len 0 k)) more ∙ sum_by-range_more (λ k. cond (x == k) r 0) n in
    ⊎_elim
    (λ (h : x < n). let ne : x ≢ n = omega arith in omega (arith, step, sum_by-range_once x r n h, ap (λ (b : Bool). cond b r 0) (ne_eqb x n ne)))
    (λ (h : n ≤ x). let e : x ≡ n = omega arith in
    omega (arith, step, sum_by-range_past x r n h, ap (λ (k : ℕ). cond (x == k) r 0) (sym e) ∙ ap (λ (b : Bool). cond b r 0) (eq-eqb x x refl)))
    (cases_lt x n)

-- two sums change places
pub sums-swap : {X : Type 0} (f : X → ℕ → ℕ) (xs : List X) (n : ℕ)
    → sum_by (λ x. sum_by (f x) (range_with_len 0 n)) xs ≡ sum_by (λ k. sum_by (λ x. f x k) xs) (range_with_len 0 n)
sums-swap f [] n = sym (sum_by-range_zero n)
sums-swap f (x ∷ xs) n =
    omega (
      arith,
      sum_by-cons (λ x. sum_by (f x) (range_with_len 0 n)) x xs,
      sums-swap f xs n,
      sum_by-range_add (f x) (λ k. sum_by (λ x. f x k) xs) n,
      sum_by-range_same (λ k. sum_by (λ x. f x k) (x ∷ xs)) (λ k. f x k + sum_by (λ x. f x k) xs) n (λ k below. sum_by-cons (λ x. f x k) x xs),
    )

-- a sum over a list is one over its places
pub sum_by-places : {X : Type 0} (f : X → ℕ) (xs : List X) (d : X) → sum_by f xs ≡ sum_by (λ k. f (get_or xs k d)) (range_with_len 0 (length xs))
sum_by-places {X = X} f xs d = by xs
  where
    shifted : (g : ℕ → ℕ) (n : ℕ) → sum_by g (range_with_len 0 (n + 1)) ≡ g 0 + sum_by (λ k. g (k + 1)) (range_with_len 0 n)
    shifted g zero = omega arith
    shifted g (suc n) =
        let more : suc n ≡ n + 1 = omega arith in
        omega (
          arith,
          sum_by-range_more g (suc n),
          ap (λ (k : ℕ). sum_by g (range_with_len 0 k)) more,
          shifted g n,
          ap (λ (k : ℕ). sum_by (λ k. g (k + 1)) (range_with_len 0 k)) more,
          sum_by-range_more (λ k. g (k + 1)) n,
          ap g more,
        )

    by : (xs : List X) → sum_by f xs ≡ sum_by (λ k. f (get_or xs k d)) (range_with_len 0 (length xs))
    by [] = refl
    by (x ∷ xs) =
        let more : suc (length xs) ≡ length xs + 1 = omega arith in
        omega (
          arith,
          sum_by-cons f x xs,
          by xs,
          ap (λ (k : ℕ). sum_by (λ k. f (get_or (x ∷ xs) k d)) (range_with_len 0 k)) more,
          shifted (λ k. f (get_or (x ∷ xs) k d)) (length xs),
          sum_by-range_same (λ k. f (get_or (x ∷ xs) (k + 1) d)) (λ k. f (get_or xs k d)) (length xs) (λ k below. let e : k + 1 ≡ suc k = omega arith in ap (λ (j : ℕ). f (get_or (x ∷ xs) j d)) e),
        )

pub sum_by-flat_map : {X Y : Type 0} (g : Y → ℕ) (f : X → List Y) (xs : List X) → sum_by g (flat_map f xs) ≡ sum_by (λ x. sum_by g (f x)) xs
sum_by-flat_map g f [] = refl
sum_by-flat_map g f (x ∷ xs) =
    omega (arith, ap (sum_by g) (flat_map-cons f x xs), sum_by-append g (f x) (flat_map f xs), sum_by-cons (λ x. sum_by g (f x)) x xs, sum_by-flat_map g f xs)

pub sum_by-bounded : {X : Type 0} (f : X → ℕ) (most : ℕ) (xs : List X) → All (λ x. f x ≤ most) xs → sum_by f xs ≤ length xs * most
sum_by-bounded f most [] all = omega arith
sum_by-bounded f most (x ∷ xs) all =
    let rest : sum_by f xs ≤ length xs * most = sum_by-bounded f most xs (All-tail (λ y. f y ≤ most) x xs all) in
    let more : (length xs + 1) * most ≡ length xs * most + most = grind arith in
    let long : length (x ∷ xs) ≡ length xs + 1 = omega arith in
    omega (arith, sum_by-cons f x xs, All-head (λ y. f y ≤ most) x xs all, rest, more, ap (λ (n : ℕ). n * most) long)

-- ---- rows that are permuted list by list

occurrences-append : (x : Row) (xs ys : Rows) → occurrences row_order x (xs ++ ys) ≡ occurrences row_order x xs + occurrences row_order x ys
occurrences-append x [] ys = omega arith
occurrences-append x (z ∷ xs) ys = by (is_eq (row_order x z)) _ _ _ (occurrences-append x xs ys)
  where
    by : (b : Bool) (m n k : ℕ) → m ≡ n + k → cond b (1 + m) m ≡ cond b (1 + n) n + k
    by true m n k e = omega (arith, e)
    by false m n k e = e

occurrences-flat_map : {Y : Type 0} (x : Row) (f : Y → Rows) (ys : List Y) → occurrences row_order x (flat_map f ys) ≡ sum_by (λ y. occurrences row_order x (f y)) ys
occurrences-flat_map x f [] = refl
occurrences-flat_map x f (y ∷ ys) =
    occurrences-append x (f y) (flat_map f ys) ∙ ap (λ (n : ℕ). occurrences row_order x (f y) + n) (occurrences-flat_map x f ys) ∙ sym (sum_by-cons (λ y. occurrences row_order x (f y)) y ys)

from-counts : (xs ys : Rows) → ((x : Row) → occurrences row_order x xs ≡ occurrences row_order x ys) → IsPermutation xs ys
from-counts xs ys h =
    let o = row_order_total in
    let to = IsPermutation-sorted_by row_order xs in
    let from = IsPermutation-sorted_by row_order ys in
    let one : sorted_by row_order xs ≡ sorted_by row_order ys =
    same_counts row_order o row_order-IsAntisymmetric (sorted_by row_order xs) (sorted_by row_order ys) (Ascending-sorted_by row_order o row_order-IsAntisymmetric xs) (Ascending-sorted_by row_order o row_order-IsAntisymmetric ys)
    (λ x. sym (occurrences-IsPermutation row_order x xs (sorted_by row_order xs) to) ∙ h x ∙ occurrences-IsPermutation row_order x ys (sorted_by row_order ys) from) in
    IsPermutation-trans xs (sorted_by row_order xs) ys to (subst (λ l. IsPermutation l ys) (sym one) (IsPermutation-sym ys (sorted_by row_order ys) from))

pub flat_map-permuted : {Y : Type 0} (f : Y → Rows) (xs ys : List Y) → IsPermutation xs ys → IsPermutation (flat_map f xs) (flat_map f ys)
flat_map-permuted f xs ys h =
    from-counts (flat_map f xs) (flat_map f ys)
    (λ x. occurrences-flat_map x f xs ∙ sym (sum_by-IsPermutation (λ y. occurrences row_order x (f y)) xs ys h) ∙ sym (occurrences-flat_map x f ys))
