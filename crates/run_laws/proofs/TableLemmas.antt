-- Lists of bags, and what is made of bags whatever it is.
use Rattle.std.proofs.Common.{◌≡◌, ℕ, zero, suc, ◌+◌, ◌==◌, List, [], ◌∷◌, ◌++◌, map, length, refl, sym, ap, subst}
use Rattle.std.specs.Prelude.{IsPermutation, filter, slice_index_or, set, take}
use Rattle.std.specs.List.{flat_map, range_with_len}
use Rattle.std.proofs.lemmas.List.{append_assoc}
use Rattle.std.proofs.lemmas.List.Sorted.{IsPermutation-refl, IsPermutation-sym, IsPermutation-trans, IsPermutation-append, IsPermutation-append_right, IsPermutation-append_comm, length_permutation}
use Rattle.rel_base.specs.Bags.{SameBag}
use Rattle.rel_base.specs.Values.{row_order}
use Rattle.rel_base.specs.ValueLaws.{row_order_total, row_order-IsAntisymmetric}
use Rattle.myrial_ast.specs.Combinations.{Row, Rows}
use Rattle.bag_laws.specs.Permuted.{SameTables, no_table, a_table}
use Rattle.bag_laws.proofs.AnyOrder.{in_any_order}
use Rattle.bag_laws.proofs.RowPermutations.{filter_rows-same}
use Rattle.placement.specs.Exchanges.{row_counts}
use Rattle.placement.specs.Layouts.{parts_by_home}

-- ---- lists of bags

pub tables-itself : (ts : List Rows) → SameTables ts ts
tables-itself [] = no_table
tables-itself (rows ∷ ts) = a_table rows rows ts ts (IsPermutation-refl rows) (tables-itself ts)

pub tables-equal : (ts us : List Rows) → ts ≡ us → SameTables ts us
tables-equal ts us e = subst (λ vs. SameTables ts vs) e (tables-itself ts)

pub tables-trans : (ts us vs : List Rows) → SameTables ts us → SameTables us vs → SameTables ts vs
tables-trans _ _ _ no_table no_table = no_table
tables-trans _ _ _ (a_table rows others ts us h hs) (a_table _ more _ vs k ks) =
    a_table rows more ts vs (IsPermutation-trans rows others more h k) (tables-trans ts us vs hs ks)

pub tables-back : (ts us : List Rows) → SameTables ts us → SameTables us ts
tables-back _ _ no_table = no_table
tables-back _ _ (a_table rows others ts us h hs) =
    a_table others rows us ts (IsPermutation-sym rows others h) (tables-back ts us hs)

pub tables-long : (ts us : List Rows) → SameTables ts us → length ts ≡ length us
tables-long _ _ no_table = refl
tables-long _ _ (a_table rows others ts us h hs) = ap suc (tables-long ts us hs)

pub tables-counts : (ts us : List Rows) → SameTables ts us → row_counts ts ≡ row_counts us
tables-counts _ _ no_table = refl
tables-counts _ _ (a_table rows others ts us h hs) =
    let here : length rows ≡ length others = sym (length_permutation rows others h) in
    let rest = tables-counts ts us hs in
    λ i. here i ∷ rest i

pub tables-at : (ts us : List Rows) → SameTables ts us → (w : ℕ) → SameBag (slice_index_or ts w []) (slice_index_or us w [])
tables-at _ _ no_table w = IsPermutation-refl []
tables-at _ _ (a_table rows others ts us h hs) zero = h
tables-at _ _ (a_table rows others ts us h hs) (suc w) = tables-at ts us hs w

pub tables-map : (f g : Rows → Rows) → ((a b : Rows) → SameBag a b → SameBag (f a) (g b)) → (ts us : List Rows) → SameTables ts us
    → SameTables (map f ts) (map g us)
tables-map f g same _ _ no_table = no_table
tables-map f g same _ _ (a_table rows others ts us h hs) =
    a_table (f rows) (g others) (map f ts) (map g us) (same rows others h) (tables-map f g same ts us hs)

pub tables-set : (ts us : List Rows) → SameTables ts us → (j : ℕ) (a b : Rows) → SameBag a b → SameTables (set ts j a) (set us j b)
tables-set _ _ no_table j a b k = no_table
tables-set _ _ (a_table rows others ts us h hs) zero a b k = a_table a b ts us k hs
tables-set _ _ (a_table rows others ts us h hs) (suc j) a b k =
    a_table rows others (set ts j a) (set us j b) h (tables-set ts us hs j a b k)

pub tables-take : (i : ℕ) (ts us : List Rows) → SameTables ts us → SameTables (take i ts) (take i us)
tables-take zero ts us h = no_table
tables-take (suc i) _ _ no_table = no_table
tables-take (suc i) _ _ (a_table rows others ts us h hs) = a_table rows others (take i ts) (take i us) h (tables-take i ts us hs)

-- lists for some workers, each made by its number
pub tables-range : (f g : ℕ → Rows) → ((w : ℕ) → SameBag (f w) (g w)) → (a n : ℕ)
    → SameTables (map f (range_with_len a n)) (map g (range_with_len a n))
tables-range f g same a zero = no_table
tables-range f g same a (suc n) =
    a_table (f a) (g a) (map f (range_with_len (a + 1) n)) (map g (range_with_len (a + 1) n)) (same a)
    (tables-range f g same (a + 1) n)

-- the same rows, each at its home
pub homes-same : (n : ℕ) (home : Row → ℕ) (xs ys : Rows) → SameBag xs ys
    → SameTables (parts_by_home n home xs) (parts_by_home n home ys)
homes-same n home xs ys h =
    tables-range (λ w. filter (λ row. home row == w) xs) (λ w. filter (λ row. home row == w) ys)
    (λ w. filter_rows-same (λ row. home row == w) xs ys h) 0 n

-- ---- what is made of rows, of any type

module _ {Y : Type 0} where
  two-swapped : (a b c : List Y) → IsPermutation (a ++ (b ++ c)) (b ++ (a ++ c))
  two-swapped a b c =
      subst (λ xs. IsPermutation xs (b ++ (a ++ c))) (append_assoc a b c)
      (subst (λ xs. IsPermutation ((a ++ b) ++ c) xs) (append_assoc b a c)
      (IsPermutation-append (a ++ b) (b ++ a) c c (IsPermutation-append_comm a b) (IsPermutation-refl c)))

  pub rows-make : (f : Row → List Y) (xs ys : Rows) → SameBag xs ys → IsPermutation (flat_map f xs) (flat_map f ys)
  rows-make f xs ys h = in_any_order row_order (λ us vs. IsPermutation (flat_map f us) (flat_map f vs)) (record {
    itself = λ us. IsPermutation-refl (flat_map f us);
    back = λ us vs k. IsPermutation-sym (flat_map f us) (flat_map f vs) k;
    joined = λ us vs ws k l. IsPermutation-trans (flat_map f us) (flat_map f vs) (flat_map f ws) k l;
    behind = λ x us vs k. IsPermutation-append_right (f x) (flat_map f us) (flat_map f vs) k;
    two = λ x y us. two-swapped (f x) (f y) (flat_map f us);
  }) row_order_total row_order-IsAntisymmetric xs ys h
