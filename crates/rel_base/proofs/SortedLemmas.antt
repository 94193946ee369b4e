-- There is one ascending list of a bag: `sorted_by` gives it, under each total order whose ties are equal.
use Rattle.std.proofs.Common.{◌≡◌, ℕ, zero, suc, ◌+◌, Bool, true, false, cond, List, [], ◌∷◌, get_or, refl, sym, ◌∙◌, ap, subst, arith}
use Rattle.std.specs.Prelude.{IsPermutation, IsSorted, count_by}
use Rattle.std.specs.declared.cmp.Ordering.{Ordering}
use Rattle.std.specs.declared.cmp.Ordering.TheVariants.{Less, Equal, Greater}
use Rattle.std.specs.Ordering.{is_lt, is_gt, is_eq, ordering_reverse}
use Rattle.std.specs.Cmp.{IsTotalOrder}
use Rattle.std.specs.FinMap.{IsAntisymmetric}
use Rattle.std.proofs.lemmas.List.Recursion.{is_count_by}
use Rattle.std.proofs.lemmas.List.Sorted.{IsPermutation-refl, IsPermutation-cons, IsPermutation-trans, IsPermutation-append_left, IsPermutation-append_comm, sum_by-IsPermutation}
use Rattle.rel_base.specs.Bags.{put_in_order, sorted_by}

module _ {X : Type 0} (R : X → X → Ordering) where
  -- x comes before none of the list's items
  abbrev pub AtMost : X → List X → Type 0
  AtMost x [] = Unit {0}
  AtMost x (y ∷ ys) = (is_gt (R x y) ≡ false) × AtMost x ys

  -- no item is greater than one behind it
  abbrev pub Ascending : List X → Type 0
  Ascending [] = Unit {0}
  Ascending (x ∷ xs) = AtMost x xs × Ascending xs

  -- how often the list holds an item that ties with x
  abbrev pub occurrences : X → List X → ℕ
  occurrences x [] = 0
  occurrences x (y ∷ ys) = cond (is_eq (R x y)) (1 + occurrences x ys) (occurrences x ys)

  pub occurrences-count : (x : X) (ys : List X) → occurrences x ys ≡ count_by (λ y. is_eq (R x y)) ys
  occurrences-count x = is_count_by (occurrences x) (λ y. is_eq (R x y)) refl (λ y ys. refl)

  pub occurrences-IsPermutation : (x : X) (xs ys : List X) → IsPermutation xs ys → occurrences x xs ≡ occurrences x ys
  occurrences-IsPermutation x xs ys p =
      occurrences-count x xs ∙ sym (sum_by-IsPermutation (λ y. cond (is_eq (R x y)) 1 0) xs ys p) ∙ sym (occurrences-count x ys)

  module _ (o : IsTotalOrder R) (same : IsAntisymmetric R) where
    itself : (x : X) → R x x ≡ Equal
    itself x = by (R x x) refl (o.antisymm x x)
      where
        by : (r : Ordering) → R x x ≡ r → r ≡ ordering_reverse r → r ≡ Equal
        by Less p e = cc
        by Equal p e = refl
        by Greater p e = cc

    -- what is at most y is at most all that y is at most
    AtMost-trans : (x y : X) (ys : List X) → is_gt (R x y) ≡ false → AtMost y ys → AtMost x ys
    AtMost-trans x y [] e m = tt
    AtMost-trans x y (z ∷ zs) e m = (first (R x y) (R y z) refl refl e m.0, AtMost-trans x y zs e m.1)
      where
        first : (r s : Ordering) → R x y ≡ r → R y z ≡ s → is_gt r ≡ false → is_gt s ≡ false → is_gt (R x z) ≡ false
        first Less Less p q a b = ap is_gt (o.trans x y z p q)
        first Less Equal p q a b = let e : y ≡ z = same y z q in subst (λ w. is_gt (R x w) ≡ false) e (ap is_gt p)
        first Equal s p q a b = let e : x ≡ y = same x y p in subst (λ w. is_gt (R w z) ≡ false) (sym e) (ap is_gt q ∙ b)
        first Less Greater p q a b = cc
        first Greater s p q a b = cc

    -- an item below the least of a list isn't in it
    occurrences-below : (x y : X) (ys : List X) → R x y ≡ Less → AtMost y ys → occurrences x ys ≡ 0
    occurrences-below x y [] e m = refl
    occurrences-below x y (z ∷ zs) e m = by (R x z) refl ∙ occurrences-below x y zs e m.1
      where
        by : (r : Ordering) → R x z ≡ r → occurrences x (z ∷ zs) ≡ occurrences x zs
        by Less p = ap (λ w. cond (is_eq w) (1 + occurrences x zs) (occurrences x zs)) p
        by Greater p = ap (λ w. cond (is_eq w) (1 + occurrences x zs) (occurrences x zs)) p
        by Equal p =
            let t : x ≡ z = same x z p in
            let u : is_gt (R y x) ≡ false = subst (λ w. is_gt (R y w) ≡ false) (sym t) m.0 in
            let v : is_gt (R y x) ≡ true = ap is_gt (o.antisymm y x ∙ ap ordering_reverse e) in
            absurd (cc)

    occurrences-own : (x : X) (xs : List X) → occurrences x (x ∷ xs) ≡ 1 + occurrences x xs
    occurrences-own x xs = ap (λ w. cond (is_eq w) (1 + occurrences x xs) (occurrences x xs)) (itself x)

    -- two ascending lists that hold each item equally often are one list
    pub same_counts : (xs ys : List X) → Ascending xs → Ascending ys → ((x : X) → occurrences x xs ≡ occurrences x ys) → xs ≡ ys
    same_counts [] [] a b h = refl
    same_counts [] (y ∷ ys) a b h = let e = occurrences-own y ys in let k = h y in absurd (omega arith)
    same_counts (x ∷ xs) [] a b h = let e = occurrences-own x xs in let k = h x in absurd (omega arith)
    same_counts (x ∷ xs) (y ∷ ys) a b h =
        let heads : x ≡ y = by (R x y) refl in
        let rest : (z : X) → occurrences z xs ≡ occurrences z ys = λ z. tails z (is_eq (R z x)) heads (h z) in
        λ i. heads i ∷ same_counts xs ys a.1 b.1 rest i
      where
        by : (r : Ordering) → R x y ≡ r → x ≡ y
        by Equal p = same x y p
        by Less p =
            let none : occurrences x (y ∷ ys) ≡ 0 = occurrences-below x y (y ∷ ys) p (ap is_gt (itself y), b.0) in
            let some = occurrences-own x xs in let k = h x in absurd (omega arith)
        by Greater p =
            let q : R y x ≡ Less = o.antisymm y x ∙ ap ordering_reverse p in
            let none : occurrences y (x ∷ xs) ≡ 0 = occurrences-below y x (x ∷ xs) q (ap is_gt (itself x), a.0) in
            let some = occurrences-own y ys in let k = h y in absurd (omega arith)

        less : (t : Bool) (m n : ℕ) → cond t (1 + m) m ≡ cond t (1 + n) n → m ≡ n
        less true m n e = omega arith
        less false m n e = e

        tails : (z : X) (t : Bool) → x ≡ y → occurrences z (x ∷ xs) ≡ occurrences z (y ∷ ys) → occurrences z xs ≡ occurrences z ys
        tails z t e k =
            less (is_eq (R z x)) _ _ (k ∙ ap (λ w. cond (is_eq (R z w)) (1 + occurrences z ys) (occurrences z ys)) (sym e))

    tail_sorted : (x : X) (xs : List X) → IsSorted R (x ∷ xs) → IsSorted R xs
    tail_sorted x xs s k d low high =
        let next : suc k + 1 ≡ suc (k + 1) = omega arith in
        subst (λ (n : ℕ). is_lt (R (get_or (x ∷ xs) n d) (get_or xs k d)) ≡ false) next (s (suc k) d (omega arith) (omega arith))

    -- a list that is sorted as std says it is ascending
    pub Ascending-IsSorted : (xs : List X) → IsSorted R xs → Ascending xs
    Ascending-IsSorted [] s = tt
    Ascending-IsSorted (x ∷ []) s = (tt, tt)
    Ascending-IsSorted (x ∷ y ∷ ys) s =
        let rest : Ascending (y ∷ ys) = Ascending-IsSorted (y ∷ ys) (tail_sorted x (y ∷ ys) s) in
        let first : is_gt (R x y) ≡ false = turned (R y x) refl (s 0 x (omega arith) (omega arith)) in
        ((first, AtMost-trans x y ys first rest.0), rest)
      where
        turned : (r : Ordering) → R y x ≡ r → is_lt r ≡ false → is_gt (R x y) ≡ false
        turned Less p e = cc
        turned Equal p e = ap is_gt (o.antisymm x y ∙ ap ordering_reverse p)
        turned Greater p e = ap is_gt (o.antisymm x y ∙ ap ordering_reverse p)

    -- the same the other way
    pub IsSorted-Ascending : (xs : List X) → Ascending xs → IsSorted R xs
    IsSorted-Ascending [] a k d low high = absurd (omega arith)
    IsSorted-Ascending (x ∷ []) a k d low high = absurd (omega arith)
    IsSorted-Ascending (x ∷ y ∷ ys) a zero d low high = turned (R x y) refl a.0.0
      where
        turned : (r : Ordering) → R x y ≡ r → is_gt r ≡ false → is_lt (R y x) ≡ false
        turned Less p e = ap is_lt (o.antisymm y x ∙ ap ordering_reverse p)
        turned Equal p e = ap is_lt (o.antisymm y x ∙ ap ordering_reverse p)
        turned Greater p e = cc
    IsSorted-Ascending (x ∷ y ∷ ys) a (suc k) d low high =
        let next : suc (k + 1) ≡ suc k + 1 = omega arith in
        subst (λ (n : ℕ). is_lt (R (get_or (x ∷ y ∷ ys) n d) (get_or (y ∷ ys) k d)) ≡ false) next
        (IsSorted-Ascending (y ∷ ys) a.1 k d (omega arith) (omega arith))

    AtMost-put_in_order : (x y : X) (ys : List X) → is_gt (R x y) ≡ false → AtMost x ys → AtMost x (put_in_order R y ys)
    AtMost-put_in_order x y [] e m = (e, tt)
    AtMost-put_in_order x y (z ∷ zs) e m = by (is_gt (R y z)) (AtMost-put_in_order x y zs e m.1)
      where
        by : (t : Bool) → AtMost x (put_in_order R y zs) → AtMost x (cond t (z ∷ put_in_order R y zs) (y ∷ z ∷ zs))
        by true further = (m.0, further)
        by false further = (e, m)

    Ascending-put_in_order : (x : X) (ys : List X) → Ascending ys → Ascending (put_in_order R x ys)
    Ascending-put_in_order x [] a = (tt, tt)
    Ascending-put_in_order x (y ∷ ys) a = by (is_gt (R x y)) refl (Ascending-put_in_order x ys a.1)
      where
        turned : (r : Ordering) → R x y ≡ r → is_gt r ≡ true → is_gt (R y x) ≡ false
        turned Less p e = cc
        turned Equal p e = cc
        turned Greater p e = ap is_gt (o.antisymm y x ∙ ap ordering_reverse p)

        by : (t : Bool) → is_gt (R x y) ≡ t → Ascending (put_in_order R x ys) → Ascending (cond t (y ∷ put_in_order R x ys) (x ∷ y ∷ ys))
        by true e rest = (AtMost-put_in_order y x ys (turned (R x y) refl e) a.0, rest)
        by false e rest = ((e, AtMost-trans x y ys e a.0), a)

    pub Ascending-sorted_by : (xs : List X) → Ascending (sorted_by R xs)
    Ascending-sorted_by [] = tt
    Ascending-sorted_by (x ∷ xs) = Ascending-put_in_order x (sorted_by R xs) (Ascending-sorted_by xs)

  IsPermutation-two : (x y : X) (ys : List X) → IsPermutation (x ∷ y ∷ ys) (y ∷ x ∷ ys)
  IsPermutation-two x y ys = IsPermutation-append_left ys (x ∷ y ∷ []) (y ∷ x ∷ []) (IsPermutation-append_comm (x ∷ []) (y ∷ []))

  IsPermutation-put_in_order : (x : X) (ys : List X) → IsPermutation (x ∷ ys) (put_in_order R x ys)
  IsPermutation-put_in_order x [] = IsPermutation-refl (x ∷ [])
  IsPermutation-put_in_order x (y ∷ ys) = by (is_gt (R x y)) (IsPermutation-put_in_order x ys)
    where
      by : (t : Bool) → IsPermutation (x ∷ ys) (put_in_order R x ys) → IsPermutation (x ∷ y ∷ ys) (cond t (y ∷ put_in_order R x ys) (x ∷ y ∷ ys))
      by true moved =
          IsPermutation-trans (x ∷ y ∷ ys) (y ∷ x ∷ ys) (y ∷ put_in_order R x ys) (IsPermutation-two x y ys)
          (IsPermutation-cons y (x ∷ ys) (put_in_order R x ys) moved)
      by false moved = IsPermutation-refl (x ∷ y ∷ ys)

  -- `sorted_by` only moves items
  pub IsPermutation-sorted_by : (xs : List X) → IsPermutation xs (sorted_by R xs)
  IsPermutation-sorted_by [] = IsPermutation-refl []
  IsPermutation-sorted_by (x ∷ xs) =
      IsPermutation-trans (x ∷ xs) (x ∷ sorted_by R xs) (sorted_by R (x ∷ xs))
      (IsPermutation-cons x xs (sorted_by R xs) (IsPermutation-sorted_by xs)) (IsPermutation-put_in_order x (sorted_by R xs))

  module _ (o : IsTotalOrder R) (same : IsAntisymmetric R) where
    -- what a sort gives is `sorted_by`
    pub sorted_by-unique : (xs ys : List X) → IsPermutation xs ys → IsSorted R ys → ys ≡ sorted_by R xs
    sorted_by-unique xs ys p s =
        same_counts o same ys (sorted_by R xs) (Ascending-IsSorted o same ys s) (Ascending-sorted_by o same xs)
        (λ x. sym (occurrences-IsPermutation x xs ys p) ∙ occurrences-IsPermutation x xs (sorted_by R xs) (IsPermutation-sorted_by xs))
