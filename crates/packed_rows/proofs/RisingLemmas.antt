-- Rows of which each comes before the next, and words of which each stands once.
use native.Mathlib.Numerals.{unary_clauses}
use Rattle.std.proofs.Common.{◌≡◌, ℕ, suc, ◌+◌, ◌-◌, ◌<◌, ◌≤◌, ◌⊎◌, inl, inr, Bool, true, false, not, cond, is_lt, List, [], ◌∷◌, map, get_or, refl, sym, ◌∙◌, ap, subst, arith}
use Rattle.std.specs.Prelude.{All, filter, ◌||◌, nat_eq}
use Rattle.std.specs.List.Retain.{DiffersFromLast, IsFiltered}
use Rattle.std.specs.List.{dedup, dedup_from, list_any}
use Rattle.std.specs.declared.cmp.Ordering.{Ordering}
use Rattle.std.specs.declared.cmp.Ordering.TheVariants.{Less, Equal, Greater}
use Rattle.std.specs.Ordering.{is_eq}
use Rattle.std.proofs.lemmas.Bool.{cases_lt, eqb-true}
use Rattle.std.proofs.lemmas.List.Elements.{All-nil, All-cons, All-weaker}
use Rattle.std.proofs.lemmas.List.Filters.{dedup_is}
use Rattle.std.proofs.lemmas.List.Sorted.{list_any-IsPermutation}
use Rattle.rel_base.specs.Bags.{SameBag}
use Rattle.rel_base.specs.Values.{row_order}
use Rattle.rel_base.specs.ValueLaws.{row_order_total, row_order-IsAntisymmetric}
use Rattle.myrial_ast.specs.Combinations.{Row, Rows}
use Rattle.myrial_ast.specs.Bags.{same_row, has_row, distinct}
use Rattle.rel_base.proofs.SortedLemmas.{occurrences}
use Rattle.bag_laws.proofs.RowPermutations.{from_counts, occurrences-distinct}
use Rattle.packed_rows.specs.Runs.{AreRising}
use Rattle.packed_rows.proofs.RunLemmas.{filter-all}

-- ---- rows that rise

from-less : (o : Ordering) → is_lt o ≡ true → o ≡ Less
from-less Less e = refl
from-less Equal e = absurd (cc)
from-less Greater e = absurd (cc)

-- rows that rise as far as a place, and there one that is behind the one before it
pub rising-more : (rows : Rows) (count : ℕ) → 0 < count
    → ((k : ℕ) → k + 1 < count → is_lt (row_order (get_or rows k []) (get_or rows (k + 1) [])) ≡ true)
    → is_lt (row_order (get_or rows (count - 1) []) (get_or rows count [])) ≡ true
    → (k : ℕ) → k + 1 < count + 1 → is_lt (row_order (get_or rows k []) (get_or rows (k + 1) [])) ≡ true
rising-more rows count some up last k high = by (cases_lt (k + 1) count)
  where
    by : (k + 1 < count) ⊎ (count ≤ k + 1) → is_lt (row_order (get_or rows k []) (get_or rows (k + 1) [])) ≡ true
    by (inl h) = up k h
    by (inr h) =
        let at : count ≡ k + 1 = omega (arith, h, high) in
        let before : count - 1 ≡ k = omega (arith, h, high) in
        (λ i. is_lt (row_order (get_or rows (sym before i) []) (get_or rows (sym at i) []))) ∙ last

rising-tail : (row : Row) (rows : Rows) → AreRising (row ∷ rows) → AreRising rows
rising-tail row rows up k low =
    let next : suc k ≡ k + 1 = omega arith in
    subst (λ (n : ℕ). is_lt (row_order (get_or rows k []) (get_or rows n [])) ≡ true) next
    (simp unary_clauses at (up (k + 1) (omega (arith, low))))

-- each comes before all behind it
less-behind : (row : Row) (rows : Rows) → AreRising (row ∷ rows) → All (λ next. row_order row next ≡ Less) rows
less-behind row [] up = All-nil (λ next. row_order row next ≡ Less)
less-behind row (next ∷ rows) up =
    let first : row_order row next ≡ Less = from-less (row_order row next) (up 0 (omega arith)) in
    All-cons (λ next. row_order row next ≡ Less) next rows first
    (All-weaker (λ last. row_order next last ≡ Less) (λ last. row_order row last ≡ Less)
    (λ last e. row_order_total.trans row next last first e) rows
    (less-behind next rows (rising-tail row (next ∷ rows) up)))

-- none stands twice
pub distinct-rising : (rows : Rows) → AreRising rows → distinct rows ≡ rows
distinct-rising [] up = refl
distinct-rising (row ∷ rows) up =
    ap (λ behind. row ∷ filter (λ next. not (same_row row next)) behind) (distinct-rising rows (rising-tail row rows up))
    ∙ ap (λ behind. row ∷ behind)
    (filter-all (λ next. not (same_row row next)) rows
    (All-weaker (λ next. row_order row next ≡ Less) (λ next. not (same_row row next) ≡ true)
    (λ next e. ap (λ o. not (is_eq o)) e) rows (less-behind row rows up)))

-- ---- words, each once

any-dedup_from : (test : ℕ → Bool) (word : ℕ) (words : List ℕ)
    → list_any test (dedup_from nat_eq word words) ≡ (test word || list_any test words)
any-dedup_from test word [] = refl
any-dedup_from test word (next ∷ words) =
    by (nat_eq next word) refl (any-dedup_from test word words) (any-dedup_from test next words)
  where
    twice : (b c : Bool) → (b || c) ≡ (b || (b || c))
    twice true c = refl
    twice false c = refl

    by : (b : Bool) → nat_eq next word ≡ b
        → list_any test (dedup_from nat_eq word words) ≡ (test word || list_any test words)
        → list_any test (dedup_from nat_eq next words) ≡ (test next || list_any test words)
        → list_any test (cond b (dedup_from nat_eq word words) (word ∷ dedup_from nat_eq next words))
        ≡ (test word || (test next || list_any test words))
    by true e same other =
        same ∙ twice (test word) (list_any test words)
        ∙ ap (λ (n : ℕ). test word || (test n || list_any test words)) (sym (eqb-true next word e))
    by false e same other = ap (λ b. test word || b) other

any-dedup : (test : ℕ → Bool) (words : List ℕ) → list_any test (dedup nat_eq words) ≡ list_any test words
any-dedup test [] = refl
any-dedup test (word ∷ words) = any-dedup_from test word words

any-map : (test : Row → Bool) (row : ℕ → Row) (words : List ℕ) → list_any test (map row words) ≡ list_any (λ word. test (row word)) words
any-map test row [] = refl
any-map test row (word ∷ words) = ap (λ b. test (row word) || b) (any-map test row words)

-- the rows of words are some rows, each once, where those words are rows that rise which are left of the words of these rows
pub each-once : (row : ℕ → Row) (rows : Rows) (words kept : List ℕ) → SameBag rows (map row words)
    → IsFiltered (DiffersFromLast nat_eq) [] words kept → AreRising (map row kept) → SameBag (distinct rows) (map row kept)
each-once row rows words kept same filtered up =
    let is : kept ≡ dedup nat_eq words = dedup_is nat_eq words kept filtered in
    from_counts row_order row_order_total row_order-IsAntisymmetric (distinct rows) (map row kept)
    (λ x. let has : has_row rows x ≡ has_row (map row kept) x =
    list_any-IsPermutation (same_row x) rows (map row words) same ∙ any-map (same_row x) row words
    ∙ sym (any-dedup (λ word. same_row x (row word)) words) ∙ sym (any-map (same_row x) row (dedup nat_eq words))
    ∙ ap (λ ws. has_row (map row ws) x) (sym is) in
    occurrences-distinct x rows ∙ ap (λ b. cond b 1 0) has ∙ sym (occurrences-distinct x (map row kept))
    ∙ ap (λ rows. occurrences row_order x rows) (distinct-rising (map row kept) up))
