-- What each worker makes of the rows that came to it is its part of what is made of all rows.
use Rattle.std.proofs.Common.{◌≡◌, ℕ, Bool, true, false, not, cond, List, [], ◌∷◌, length, get_or, refl, sym, ap, ◌∙◌, subst, arith}
use Rattle.std.specs.Prelude.{filter, ◌||◌}
use Rattle.std.proofs.lemmas.List.Elements.{All-weaker, filter_passes}
use Rattle.std.proofs.lemmas.List.Sorted.{IsPermutation-trans}
use Rattle.rel_base.specs.Bags.{SameBag}
use Rattle.myrial_ast.specs.Bags.{same_row, has_row, distinct, difference}
use Rattle.myrial_ast.specs.Combinations.{Row, Rows}
use Rattle.bag_laws.proofs.PartialLemmas.{tied, distinct-filter}
use Rattle.bag_laws.proofs.RowPermutations.{distinct-same, difference-same}
use Rattle.keyed_terms.specs.inner.Making.{AreMadeBy}
use Rattle.keyed_terms.proofs.SpreadLemmas.{filter-agree}

-- ---- rows that are there once

pub distinct-made : (n : ℕ) (p : ℕ → Row → Bool) (rows : Rows) (met made : List Rows) → AreMadeBy n (λ w. filter (p w) rows) met
    → AreMadeBy (length met) (λ w. distinct (get_or met w [])) made → AreMadeBy n (λ w. filter (p w) (distinct rows)) made
distinct-made n p rows met made came x = record {
  count = x.count ∙ came.count;
  rows_are = λ w below.
      subst (λ (all : Rows). SameBag all (get_or made w [])) (sym (distinct-filter (p w) rows))
      (IsPermutation-trans (distinct (filter (p w) rows)) (distinct (get_or met w [])) (get_or made w [])
      (distinct-same (filter (p w) rows) (get_or met w []) (came.rows_are w below)) (x.rows_are w (omega (arith, below, came.count))));
}

-- ---- differences

filter-swap : (p q : Row → Bool) (rows : Rows) → filter p (filter q rows) ≡ filter q (filter p rows)
filter-swap p q [] = refl
filter-swap p q (r ∷ rows) = by (p r) refl (q r) refl (filter-swap p q rows)
  where
    by : (a : Bool) → p r ≡ a → (b : Bool) → q r ≡ b → filter p (filter q rows) ≡ filter q (filter p rows)
        → filter p (cond b (r ∷ filter q rows) (filter q rows)) ≡ filter q (cond a (r ∷ filter p rows) (filter p rows))
    by true e true f rest =
        ap (λ (t : Bool). cond t (r ∷ filter p (filter q rows)) (filter p (filter q rows))) e ∙ ap (λ (l : Rows). r ∷ l) rest
        ∙ sym (ap (λ (t : Bool). cond t (r ∷ filter q (filter p rows)) (filter q (filter p rows))) f)
    by true e false f rest = rest ∙ sym (ap (λ (t : Bool). cond t (r ∷ filter q (filter p rows)) (filter q (filter p rows))) f)
    by false e true f rest = ap (λ (t : Bool). cond t (r ∷ filter p (filter q rows)) (filter p (filter q rows))) e ∙ rest
    by false e false f rest = rest

-- a row that passes stands among the rows that pass exactly where it stands among all
has-filter : (p : Row → Bool) (rows : Rows) (r : Row) → p r ≡ true → has_row (filter p rows) r ≡ has_row rows r
has-filter p [] r passes = refl
has-filter p (s ∷ rows) r passes = by (p s) refl (same_row r s) refl (has-filter p rows r passes)
  where
    by : (a : Bool) → p s ≡ a → (b : Bool) → same_row r s ≡ b → has_row (filter p rows) r ≡ has_row rows r
        → has_row (cond a (s ∷ filter p rows) (filter p rows)) r ≡ (b || has_row rows r)
    by true e b f rest = λ i. f i || rest i
    by false e true f rest = absurd (differ (sym passes ∙ ap p (tied r s f) ∙ e))
      where
        differ : true ≡ false → ⊥
        differ h = cc
    by false e false f rest = rest

-- so what passes of a difference is the difference of what passes
difference-filter : (p : Row → Bool) (a b : Rows) → filter p (difference a b) ≡ difference (filter p a) (filter p b)
difference-filter p a b =
    filter-swap p (λ r. not (has_row b r)) (distinct a)
    ∙ filter-agree (λ r. not (has_row b r)) (λ r. not (has_row (filter p b) r)) (filter p (distinct a))
    (All-weaker (λ r. p r ≡ true) (λ r. not (has_row b r) ≡ not (has_row (filter p b) r)) (λ r passes. ap not (sym (has-filter p b r passes)))
    (filter p (distinct a)) (filter_passes p (distinct a)))
    ∙ ap (filter (λ r. not (has_row (filter p b) r))) (distinct-filter p a)

pub difference-made : (n : ℕ) (p : ℕ → Row → Bool) (rows others : Rows) (met more made : List Rows) → AreMadeBy n (λ w. filter (p w) rows) met
    → AreMadeBy n (λ w. filter (p w) others) more → AreMadeBy (length met) (λ w. difference (get_or met w []) (get_or more w [])) made
    → AreMadeBy n (λ w. filter (p w) (difference rows others)) made
difference-made n p rows others met more made came too x = record {
  count = x.count ∙ came.count;
  rows_are = λ w below.
      subst (λ (all : Rows). SameBag all (get_or made w [])) (sym (difference-filter (p w) rows others))
      (IsPermutation-trans (difference (filter (p w) rows) (filter (p w) others)) (difference (get_or met w []) (get_or more w [])) (get_or made w [])
      (difference-same (filter (p w) rows) (get_or met w []) (filter (p w) others) (get_or more w []) (came.rows_are w below) (too.rows_are w below))
      (x.rows_are w (omega (arith, below, came.count))));
}
