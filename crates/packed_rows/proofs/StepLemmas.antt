-- Counting the rows of a run, one by one.
use Rattle.std.proofs.Common.{◌≡◌, ℕ, zero, suc, ◌+◌, ◌-◌, ◌<◌, ◌≤◌, ◌⊎◌, inl, inr, is_lt, true, false, List, [], ◌∷◌, length, map, take, drop, get_or, refl, sym, ◌∙◌, ap, arith}
use Rattle.std.specs.declared.cmp.Ordering.{Ordering}
use Rattle.std.specs.declared.cmp.Ordering.TheVariants.{Less, Equal, Greater}
use Rattle.std.specs.Ordering.{ordering_reverse, eq_by_cmp}
use Rattle.std.specs.Cmp.Lexicographic.{pointwise, lists_ties}
use Rattle.std.proofs.lemmas.List.{get_or-map, length-drop}
use Rattle.std.proofs.lemmas.Bool.{cases_lt}
use Rattle.std.specs.List.Sorted.{IsSortedWithin}
use Rattle.rel_base.specs.Values.{value_order, row_order}
use Rattle.rel_base.specs.ValueLaws.{row_order_total}
use Rattle.myrial_ast.specs.Combinations.{Row, Rows}
use Rattle.myrial_ast.specs.Bags.{same_row}
use Rattle.bag_laws.proofs.PartialLemmas.{tied}

-- a row comes neither before itself nor behind itself
pub even : (row : Row) → Equal ≡ row_order row row
even row = by (row_order row row) (row_order_total.antisymm row row)
  where
    by : (o : Ordering) → o ≡ ordering_reverse o → Equal ≡ o
    by Less e = let never : true ≡ false = ap is_lt e in absurd (cc)
    by Equal e = refl
    by Greater e = let never : false ≡ true = ap is_lt e in absurd (cc)

-- rows are equal value by value where they are one row
pub same-values : (row other : Row) → pointwise (eq_by_cmp value_order) row other ≡ same_row row other
same-values = lists_ties value_order (λ r s. refl)

module _ {X : Type 0} (row : X → Row) (rows : List X) where
  -- a row at a place
  pub row-item : (k : ℕ) (one : X) → k < length rows → one ≡ get_or rows k one → get_or (map row rows) k [] ≡ row one
  row-item k one low is = get_or-map row rows k one [] low ∙ ap row (sym is)

  -- a row that is the first one
  pub row-same : (k : ℕ) (first one : X) → k < length rows → 0 < length rows → first ≡ get_or rows 0 first → one ≡ get_or rows k one
      → same_row (row first) (row one) ≡ true → get_or (map row rows) k [] ≡ get_or (map row rows) 0 []
  row-same k first one low some is at same = row-item k one low at ∙ sym (tied (row first) (row one) same) ∙ sym (row-item 0 first some is)

  -- a row that isn't
  pub row-other : (k : ℕ) (first one : X) → k < length rows → 0 < length rows → first ≡ get_or rows 0 first → one ≡ get_or rows k one
      → same_row (row first) (row one) ≡ false → same_row (get_or (map row rows) 0 []) (get_or (map row rows) k []) ≡ false
  row-other k first one low some is at other = (λ i. same_row (row-item 0 first some is i) (row-item k one low at i)) ∙ other

-- rows in order as far as a place, and there one that isn't less than the one before it
pub order-more : (rows : Rows) (count : ℕ) → 0 < count → IsSortedWithin (λ r s. is_lt (row_order r s)) rows 0 count
    → ((d : Row) → is_lt (row_order (get_or rows count d) (get_or rows (count - 1) d)) ≡ false) → IsSortedWithin (λ r s. is_lt (row_order r s)) rows 0 (count + 1)
order-more rows count some order last k d low high = by (cases_lt (k + 1) count)
  where
    by : (k + 1 < count) ⊎ (count ≤ k + 1) → is_lt (row_order (get_or rows (k + 1) d) (get_or rows k d)) ≡ false
    by (inl h) = order k d low h
    by (inr h) =
        let at : count ≡ k + 1 = omega (arith, h, high) in
        let before : count - 1 ≡ k = omega (arith, h, high) in
        (λ i. is_lt (row_order (get_or rows (sym at i) d) (get_or rows (sym before i) d))) ∙ last d

-- what a slice from a place on has
pub behind : {X : Type 0} (k : ℕ) (xs : List X) → take (length xs - k) (drop k xs) ≡ drop k xs
behind k xs = take-length (length xs - k) (drop k xs) (omega (arith, length-drop k xs))
  where
    take-length : {X : Type 0} (n : ℕ) (xs : List X) → length xs ≡ n → take n xs ≡ xs
    take-length zero [] e = refl
    take-length (suc n) [] e = refl
    take-length zero (x ∷ xs) e = absurd (omega (arith, e))
    take-length (suc n) (x ∷ xs) e = ap (λ ys. x ∷ ys) (take-length n xs (omega (arith, e)))
