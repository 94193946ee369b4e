-- Listed rows, and the operators on bags, of tables whose rows stand in another order: the same bags.
use Rattle.std.proofs.Common.{◌≡◌, ℕ, ◌+◌, Bool, true, false, not, cond, List, [], ◌∷◌, ◌++◌, map, refl, sym, ◌∙◌, ap, subst, arith}
use Rattle.std.specs.Prelude.{IsPermutation, filter, ◌||◌}
use Rattle.std.specs.List.{flat_map, sum_by}
use Rattle.std.specs.declared.cmp.Ordering.{Ordering}
use Rattle.std.specs.declared.cmp.Ordering.TheVariants.{Less, Equal, Greater}
use Rattle.std.specs.Ordering.{is_eq, ordering_reverse}
use Rattle.std.specs.Cmp.{IsTotalOrder}
use Rattle.std.specs.Cmp.Lexicographic.{slice_cmp, lists_total}
use Rattle.std.specs.FinMap.{IsAntisymmetric, slice_cmp-IsAntisymmetric}
use Rattle.std.proofs.lemmas.List.Sorted.{IsPermutation-refl, IsPermutation-sym, IsPermutation-trans, IsPermutation-map, IsPermutation-append, sum_by-IsPermutation, list_any-IsPermutation}
use Rattle.std.proofs.lemmas.List.Sums.{sum_by-cons}
use Rattle.rel_base.specs.Bags.{SameBag, sorted_by}
use Rattle.rel_base.specs.Values.{row_order}
use Rattle.rel_base.specs.ValueLaws.{row_order_total, row_order-IsAntisymmetric}
use Rattle.rel_base.proofs.SortedLemmas.{occurrences, occurrences-IsPermutation, same_counts, Ascending-sorted_by, IsPermutation-sorted_by}
use Rattle.myrial_ast.specs.Scalars.{Scalar, plain_of, arithmetic_of}
use Rattle.myrial_ast.specs.Combinations.{Row, Rows, Comprehension, combinations, combined_row, combined_rows, all_hold, candidates, emitted, listed_from, listed_rows}
use Rattle.myrial_ast.specs.Bags.{same_row, has_row, union_all, distinct, difference}
use Rattle.bag_laws.specs.Permuted.{SameTables, no_table, a_table}

-- a step of a count in a filtered list: q is whether the counted item passes, t whether this one does, b whether they tie
one_more : (q t b : Bool) (m n : ℕ) → (b ≡ true → q ≡ t) → m ≡ cond q n 0 → cond t (cond b (1 + m) m) m ≡ cond q (cond b (1 + n) n) 0
one_more true true true m n h e = omega (arith, e)
one_more true true false m n h e = e
one_more true false true m n h e = let k : true ≡ false = h refl in absurd (cc)
one_more true false false m n h e = e
one_more false true true m n h e = let k : false ≡ true = h refl in absurd (cc)
one_more false true false m n h e = e
one_more false false b m n h e = e

-- a step of a count of distinct items: b is whether the first is the counted one, w whether that one stands behind it
once : (b w : Bool) (m n : ℕ) → m ≡ cond (not b) n 0 → n ≡ cond w 1 0 → cond b (1 + m) m ≡ cond (b || w) 1 0
once true w m n e k = omega (arith, e)
once false w m n e k = e ∙ k

module _ {X : Type 0} (R : X → X → Ordering) where
  occurrences-append : (x : X) (xs ys : List X) → occurrences R x (xs ++ ys) ≡ occurrences R x xs + occurrences R x ys
  occurrences-append x [] ys = omega arith
  occurrences-append x (z ∷ xs) ys = by (is_eq (R x z)) _ _ _ (occurrences-append x xs ys)
    where
      by : (b : Bool) (m n k : ℕ) → m ≡ n + k → cond b (1 + m) m ≡ cond b (1 + n) n + k
      by true m n k e = omega (arith, e)
      by false m n k e = e

  occurrences-flat_map : {Y : Type 0} (x : X) (f : Y → List X) (ys : List Y) → occurrences R x (flat_map f ys) ≡ sum_by (λ y. occurrences R x (f y)) ys
  occurrences-flat_map x f [] = refl
  occurrences-flat_map x f (y ∷ ys) =
      occurrences-append x (f y) (flat_map f ys) ∙ ap (λ (n : ℕ). occurrences R x (f y) + n) (occurrences-flat_map x f ys)
      ∙ sym (sum_by-cons (λ y. occurrences R x (f y)) y ys)

  module _ (o : IsTotalOrder R) (same : IsAntisymmetric R) where
    -- lists that hold each item equally often are permutations of each other
    pub from_counts : (xs ys : List X) → ((x : X) → occurrences R x xs ≡ occurrences R x ys) → IsPermutation xs ys
    from_counts xs ys h =
        let to = IsPermutation-sorted_by R xs in
        let from = IsPermutation-sorted_by R ys in
        let one : sorted_by R xs ≡ sorted_by R ys =
        same_counts R o same (sorted_by R xs) (sorted_by R ys) (Ascending-sorted_by R o same xs) (Ascending-sorted_by R o same ys)
        (λ x. sym (occurrences-IsPermutation R x xs (sorted_by R xs) to) ∙ h x ∙ occurrences-IsPermutation R x ys (sorted_by R ys) from) in
        IsPermutation-trans xs (sorted_by R xs) ys to
        (subst (λ l. IsPermutation l ys) (sym one) (IsPermutation-sym ys (sorted_by R ys) from))

    -- an item counts in a filtered list as often as in the whole, or, where it fails the test, not at all
    pub occurrences-filter : (p : X → Bool) (x : X) (ys : List X) → occurrences R x (filter p ys) ≡ cond (p x) (occurrences R x ys) 0
    occurrences-filter p x [] = by (p x)
      where
        by : (t : Bool) → ◌≡◌ {A = ℕ} 0 (cond t 0 0)
        by true = refl
        by false = refl
    occurrences-filter p x (y ∷ ys) =
        step (p y) ∙ one_more (p x) (p y) (is_eq (R x y)) _ _ (λ e. ap p (tie (R x y) refl e)) (occurrences-filter p x ys)
      where
        step : (t : Bool) → occurrences R x (cond t (y ∷ filter p ys) (filter p ys)) ≡ cond t (occurrences R x (y ∷ filter p ys)) (occurrences R x (filter p ys))
        step true = refl
        step false = refl

        tie : (r : Ordering) → R x y ≡ r → is_eq r ≡ true → x ≡ y
        tie Equal e k = same x y e
        tie Less e k = cc
        tie Greater e k = cc

    pub filter-same : (p : X → Bool) (xs ys : List X) → IsPermutation xs ys → IsPermutation (filter p xs) (filter p ys)
    filter-same p xs ys h =
        from_counts (filter p xs) (filter p ys)
        (λ x. occurrences-filter p x xs ∙ ap (λ (n : ℕ). cond (p x) n 0) (occurrences-IsPermutation R x xs ys h) ∙ sym (occurrences-filter p x ys))

    pub flat_map-same : {Y : Type 0} (f : Y → List X) (xs ys : List Y) → IsPermutation xs ys → IsPermutation (flat_map f xs) (flat_map f ys)
    flat_map-same f xs ys h =
        from_counts (flat_map f xs) (flat_map f ys)
        (λ x. occurrences-flat_map x f xs ∙ sym (sum_by-IsPermutation (λ y. occurrences R x (f y)) xs ys h) ∙ sym (occurrences-flat_map x f ys))

-- lists of permutations, one after another
pub flat_map-each : {X Y : Type 0} (f g : Y → List X) → ((y : Y) → IsPermutation (f y) (g y)) → (ys : List Y) → IsPermutation (flat_map f ys) (flat_map g ys)
flat_map-each f g h [] = IsPermutation-refl []
flat_map-each f g h (y ∷ ys) = IsPermutation-append (f y) (g y) (flat_map f ys) (flat_map g ys) (h y) (flat_map-each f g h ys)

-- tables with their rows in another order have the same combinations in another order
pub combinations-same : (ts us : List Rows) → SameTables ts us → IsPermutation (combinations ts) (combinations us)
combinations-same _ _ no_table = IsPermutation-refl ([] ∷ [])
combinations-same _ _ (a_table rows others tables rest h hs) =
    let before : Row → List (List Row) = λ row. map (λ behind. row ∷ behind) (combinations tables) in
    let after : Row → List (List Row) = λ row. map (λ behind. row ∷ behind) (combinations rest) in
    IsPermutation-trans (flat_map before rows) (flat_map before others) (flat_map after others)
    (flat_map-same (slice_cmp row_order) (lists_total row_order_total) (slice_cmp-IsAntisymmetric row_order-IsAntisymmetric) before rows others h)
    (flat_map-each before after (λ row. IsPermutation-map (λ behind. row ∷ behind) (combinations tables) (combinations rest) (combinations-same tables rest hs)) others)

pub filter_rows-same : (p : Row → Bool) (a b : Rows) → SameBag a b → SameBag (filter p a) (filter p b)
filter_rows-same = filter-same row_order row_order_total row_order-IsAntisymmetric

pub candidates-same : (tests : List Scalar) (ts us : List Rows) → SameTables ts us → SameBag (candidates tests ts) (candidates tests us)
candidates-same tests ts us h =
    filter_rows-same (all_hold tests) (combined_rows ts) (combined_rows us)
    (IsPermutation-map combined_row (combinations ts) (combinations us) (combinations-same ts us h))

pub listed_from-same : (arithmetic emits : List Scalar) (a b : Rows) → SameBag a b → SameBag (listed_from arithmetic emits a) (listed_from arithmetic emits b)
listed_from-same arithmetic emits a b h =
    IsPermutation-map (emitted emits) (filter (all_hold arithmetic) a) (filter (all_hold arithmetic) b) (filter_rows-same (all_hold arithmetic) a b h)

pub listed_rows-same : (c : Comprehension) (ts us : List Rows) → SameTables ts us → SameBag (listed_rows c ts) (listed_rows c us)
listed_rows-same c ts us h =
    let plain = plain_of c.conjuncts in
    listed_from-same (arithmetic_of c.conjuncts) c.emits (candidates plain ts) (candidates plain us) (candidates-same plain ts us h)

pub union_all-same : (a b x y : Rows) → SameBag a b → SameBag x y → SameBag (union_all a x) (union_all b y)
union_all-same a b x y h k = IsPermutation-append a b x y h k

-- which of two rows stands first changes no test
pub same_row-sym : (r s : Row) → same_row r s ≡ same_row s r
same_row-sym r s = ap is_eq (row_order_total.antisymm r s) ∙ by (row_order s r)
  where
    by : (t : Ordering) → is_eq (ordering_reverse t) ≡ is_eq t
    by Less = refl
    by Equal = refl
    by Greater = refl

-- each row that stands among the rows is there once
pub occurrences-distinct : (x : Row) (rows : Rows) → occurrences row_order x (distinct rows) ≡ cond (has_row rows x) 1 0
occurrences-distinct x [] = refl
occurrences-distinct x (r ∷ rows) =
    once (same_row x r) (has_row rows x) _ _
    (occurrences-filter row_order row_order_total row_order-IsAntisymmetric (λ s. not (same_row r s)) x (distinct rows)
    ∙ ap (λ t. cond (not t) (occurrences row_order x (distinct rows)) 0) (same_row-sym r x))
    (occurrences-distinct x rows)

pub distinct-same : (a b : Rows) → SameBag a b → SameBag (distinct a) (distinct b)
distinct-same a b h =
    from_counts row_order row_order_total row_order-IsAntisymmetric (distinct a) (distinct b)
    (λ x. occurrences-distinct x a ∙ ap (λ t. cond t 1 0) (list_any-IsPermutation (same_row x) a b h) ∙ sym (occurrences-distinct x b))

pub difference-same : (a b x y : Rows) → SameBag a b → SameBag x y → SameBag (difference a x) (difference b y)
difference-same a b x y h k =
    let tests : (λ r. not (has_row x r)) ≡ (λ r. not (has_row y r)) = λ i r. not (list_any-IsPermutation (same_row r) x y k i) in
    subst (λ (p : Row → Bool). SameBag (difference a x) (filter p (distinct b))) tests
    (filter_rows-same (λ r. not (has_row x r)) (distinct a) (distinct b) (distinct-same a b h))
