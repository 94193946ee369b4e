-- The equalities that variables make: where they hold, and what columns they make one class of.
use Rattle.std.proofs.Common.{◌≡◌, ◌∙◌, ℕ, zero, suc, ◌+◌, ◌-◌, ◌<◌, ◌≤◌, ◌==◌, Bool, true, false, cond, not, List, [], ◌∷◌, ◌++◌, map, refl, sym, ap, subst, arith, Option, Some, None}
use Rattle.std.specs.Prelude.{◌&&◌, ◌||◌, filter, nat_le, nat_lt, unwrap_or}
use Rattle.std.specs.List.{flat_map, list_all, list_any, range_with_len}
use Rattle.std.specs.Ordering.{is_eq}
use Rattle.std.proofs.lemmas.Bool.{and_from, and_parts, eq-eqb, eqb-true, le-leb, lt-ltb, not-true, or_from, or_left, or_parts, or_right}
use Rattle.std.proofs.lemmas.Bool.Decides.{nat_tests}
use Rattle.std.proofs.lemmas.List.Folds.{list_any-append}
use Rattle.rel_base.specs.declared.values.Value.{Value}
use Rattle.rel_base.specs.Values.{value_order}
use Rattle.myrial_ast.specs.Classes.{equality, leader, same_class}
use Rattle.myrial_ast.specs.Combinations.{Row, all_hold}
use Rattle.myrial_ast.specs.KeptRows.{Span, classes_agree, columns_in, lies_in, reads_within}
use Rattle.myrial_ast.specs.Scalars.{Scalar, holds, value_at}
use Rattle.algebra.specs.ShapeConditions.{all_different}
use Rattle.algebra.specs.Shapes.{tie_test, ties_in}
use Rattle.algebra.proofs.ClassLemmas.{Alike, class-colour, own-leader, range-all}
use Rattle.algebra.proofs.ShapeLemmas.{equality-is, tie-holds, tied-value}
use Rattle.plan_rewrite.specs.inner.Pushing.{are_tied, is_among, is_tied, share_variable, ties_within}
use Rattle.plan_rewrite.proofs.ListLemmas.{Each, all-passing, all-spread, all-where, each-apart, each-append, each-both, each-filter, each-map, each-of, same-truth}
use Rattle.plan_rewrite.proofs.SpanLemmas.{lies-behind, lies-before}

-- ---- what the columns of a variable share

-- each of these columns has this of one thing
abbrev pub OneOf : {V : Type 0} → (V → ℕ → Type 0) → List ℕ → Type 0
OneOf {V} Has columns = (x : V) × Each (Has x) columns

-- these columns have one value
abbrev pub OneValue : {V : Type 0} → (ℕ → V) → List ℕ → Type 0
OneValue f columns = OneOf (λ x c. f c ≡ x) columns

-- a test of the equality of two columns that passes where they have one thing passes for all equalities that variables make in a
-- span
module _ {V : Type 0} (Has : V → ℕ → Type 0) (test : Scalar → Bool) (same : (x : V) (a b : ℕ) → Has x a → Has x b → test (tie_test (a, b)) ≡ true) where
  first-ties : (a : ℕ) (x : V) (cs : List ℕ) → Has x a → Each (Has x) cs → list_all test (map tie_test (map (λ d. (a, d)) cs)) ≡ true
  first-ties a x [] e h = refl
  first-ties a x (c ∷ cs) e h =
      and_from (test (tie_test (a, c))) (list_all test (map tie_test (map (λ d. (a, d)) cs))) (same x a c e h.0) (first-ties a x cs e h.1)

  one-ties : (x : V) (cs : List ℕ) → Each (Has x) cs → list_all test (map tie_test (ties_in cs)) ≡ true
  one-ties x [] h = refl
  one-ties x (c ∷ cs) h = first-ties c x cs h.0 h.1

  pub ties-pass : (span : Span) (variables : List (List ℕ)) → Each (OneOf Has) variables → list_all test (map tie_test (ties_within span variables)) ≡ true
  ties-pass span variables h = all-spread test tie_test (λ v. ties_in (filter (lies_in span) v)) variables (each variables h)
    where
      each : (vs : List (List ℕ)) → Each (OneOf Has) vs → Each (λ v. list_all test (map tie_test (ties_in (filter (lies_in span) v))) ≡ true) vs
      each [] h = tt
      each (v ∷ vs) h = (one-ties h.0.0 (filter (lies_in span) v) (each-filter (Has h.0.0) (lies_in span) v h.0.1), each vs h.1)

  member : (x : V) (cs : List ℕ) (c : ℕ) → Each (Has x) cs → is_among cs c ≡ true → Has x c
  member x [] c h e = absurd (cc)
  member x (d ∷ cs) c h e = by (d == c) refl e (member x cs c h.1)
    where
      by : (t : Bool) → (d == c) ≡ t → (t || is_among cs c) ≡ true → (is_among cs c ≡ true → Has x c) → Has x c
      by true is e later = subst (Has x) (eqb-true d c is) h.0
      by false is e later = later e

  pair-passes : (a b : ℕ) (variables : List (List ℕ)) → Each (OneOf Has) variables → share_variable variables a b ≡ true → test (tie_test (a, b)) ≡ true
  pair-passes a b [] h e = absurd (cc)
  pair-passes a b (v ∷ vs) h e = by (is_among v a && is_among v b) refl e (pair-passes a b vs h.1)
    where
      by : (t : Bool) → (is_among v a && is_among v b) ≡ t → (t || share_variable vs a b) ≡ true → (share_variable vs a b ≡ true → test (tie_test (a, b)) ≡ true) → test (tie_test (a, b)) ≡ true
      by true both e later =
          let parts = and_parts (is_among v a) (is_among v b) both in
          same h.0.0 a b (member h.0.0 v a h.0.1 parts.0) (member h.0.0 v b h.0.1 parts.1)
      by false both e later = later e

  -- and for each equality of two columns of one variable
  pub tied-passes : (variables : List (List ℕ)) → Each (OneOf Has) variables → (e : Scalar) → is_tied variables e ≡ true → test e ≡ true
  tied-passes variables h e t = by (equality e) refl t
    where
      by : (o : Option (ℕ × ℕ)) → equality e ≡ o → are_tied variables o ≡ true → test e ≡ true
      by None is t = absurd (cc)
      by (Some pair) is t = ap test (equality-is e pair is) ∙ pair-passes pair.0 pair.1 variables h t

-- ---- pairs

alike-apart : {V : Type 0} (f : ℕ → V) (a b : List (ℕ × ℕ)) → Alike f (a ++ b) → Alike f a × Alike f b
alike-apart f [] b h = (tt, h)
alike-apart f (p ∷ a) b h = let rest = alike-apart f a b h.1 in ((h.0, rest.0), rest.1)

alike-append : {V : Type 0} (f : ℕ → V) (a b : List (ℕ × ℕ)) → Alike f a → Alike f b → Alike f (a ++ b)
alike-append f [] b g h = h
alike-append f (p ∷ a) b g h = (g.0, alike-append f a b g.1 h)

-- the columns of a variable whose pairs are alike have one value
ties-one : {V : Type 0} (f : ℕ → V) (d : V) (cs : List ℕ) → Alike f (ties_in cs) → OneValue f cs
ties-one f d [] h = (d, tt)
ties-one f d (c ∷ cs) h = (f c, (refl, others cs h))
  where
    others : (ds : List ℕ) → Alike f (map (λ d. (c, d)) ds) → Each (λ e. f e ≡ f c) ds
    others [] k = tt
    others (e ∷ ds) k = (sym k.0, others ds k.1)

-- so have those of all variables, or of a part of each
each-one : {V : Type 0} (f : ℕ → V) (d : V) (part : List ℕ → List ℕ) (variables : List (List ℕ)) → Alike f (flat_map (λ v. ties_in (part v)) variables)
    → Each (λ v. OneValue f (part v)) variables
each-one f d part [] h = tt
each-one f d part (v ∷ vs) h =
    let parts = alike-apart f (ties_in (part v)) (flat_map (λ v. ties_in (part v)) vs) h in (ties-one f d (part v) parts.0, each-one f d part vs parts.1)

-- the columns of a variable are of one class
pub each-led : (variables : List (List ℕ)) → Each (OneValue (leader (flat_map ties_in variables))) variables
each-led variables = each-one (leader (flat_map ties_in variables)) 0 (λ v. v) variables (own-leader (flat_map ties_in variables))

-- ---- equalities that hold

tie-value : (row : Row) (a b : ℕ) → holds (tie_test (a, b)) row ≡ true → value_at row a ≡ value_at row b
tie-value row a b h = tied-value (value_at row a) (value_at row b) (value_order (value_at row a) (value_at row b)) refl h

holding-alike : (row : Row) (pairs : List (ℕ × ℕ)) → all_hold (map tie_test pairs) row ≡ true → Alike (value_at row) pairs
holding-alike row [] h = tt
holding-alike row (p ∷ pairs) h =
    let parts = and_parts (holds (tie_test p) row) (all_hold (map tie_test pairs) row) h in
    (tie-value row p.0 p.1 parts.0, holding-alike row pairs parts.1)

-- where the equalities of variables hold, the columns of each have one value
pub each-holding : (row : Row) (variables : List (List ℕ)) → all_hold (map tie_test (flat_map ties_in variables)) row ≡ true → Each (OneValue (value_at row)) variables
each-holding row variables h = each-one (value_at row) (value_at row 0) (λ v. v) variables (holding-alike row (flat_map ties_in variables) h)

-- ---- ranges

all-range : (f : ℕ → Bool) (a n : ℕ) → list_all f (range_with_len a n) ≡ true → (c : ℕ) → a ≤ c → c < a + n → f c ≡ true
all-range f a zero h c l m = absurd (omega (arith, l, m))
all-range f a (suc n) h c l m =
    let parts = and_parts (f a) (list_all f (range_with_len (a + 1) n)) h in
    by (a == c) refl parts.0 (λ k. all-range f (a + 1) n parts.1 c k (omega (arith, m)))
  where
    by : (b : Bool) → (a == c) ≡ b → f a ≡ true → (a + 1 ≤ c → f c ≡ true) → f c ≡ true
    by true e first rest = ap f (sym (eqb-true a c e)) ∙ first
    by false e first rest = rest (more a c l e)
      where
        more : (a c : ℕ) → a ≤ c → (a == c) ≡ false → a + 1 ≤ c
        more a c l e = grind (arith, nat_tests, l, e)

-- ---- classes in a span

module _ (span : Span) (row : Row) (pairs : List (ℕ × ℕ)) where
  -- two columns of one class that lie in the span are equal where all are
  pub at-pair : classes_agree pairs (columns_in span) row ≡ true → (a b : ℕ) → lies_in span a ≡ true → lies_in span b ≡ true → same_class pairs a b ≡ true
      → holds (tie_test (a, b)) row ≡ true
  at-pair h a b la lb e =
      let over_a =
      all-range (λ a. list_all (λ b. not (same_class pairs a b) || is_eq (value_order (value_at row a) (value_at row b))) (columns_in span)) span.from (span.to - span.from) h a
      (lies-behind span a la) (omega (arith, lies-behind span a la, lies-before span a la)) in
      let over_b =
      all-range (λ b. not (same_class pairs a b) || is_eq (value_order (value_at row a) (value_at row b))) span.from (span.to - span.from) over_a b
      (lies-behind span b lb) (omega (arith, lies-behind span b lb, lies-before span b lb)) in
      by (same_class pairs a b) e over_b
    where
      by : (t : Bool) → t ≡ true → (not t || is_eq (value_order (value_at row a) (value_at row b))) ≡ true → is_eq (value_order (value_at row a) (value_at row b)) ≡ true
      by true k g = g
      by false k g = cc

  pub from-pairs : ((a b : ℕ) → lies_in span a ≡ true → lies_in span b ≡ true → same_class pairs a b ≡ true → value_at row a ≡ value_at row b)
      → classes_agree pairs (columns_in span) row ≡ true
  from-pairs h =
      range-all (λ a. list_all (λ b. not (same_class pairs a b) || is_eq (value_order (value_at row a) (value_at row b))) (columns_in span)) span.from (span.to - span.from)
      (λ a l m. range-all (λ b. not (same_class pairs a b) || is_eq (value_order (value_at row a) (value_at row b))) span.from (span.to - span.from)
      (λ b k o. by a b (lies a l m) (lies b k o) (same_class pairs a b) refl))
    where
      lies : (c : ℕ) → span.from ≤ c → c < span.from + (span.to - span.from) → lies_in span c ≡ true
      lies c l m = and_from (nat_le span.from c) (nat_lt c span.to) (le-leb span.from c l) (lt-ltb c span.to (omega (arith, l, m)))

      by : (a b : ℕ) → lies_in span a ≡ true → lies_in span b ≡ true → (t : Bool) → same_class pairs a b ≡ t
          → (not t || is_eq (value_order (value_at row a) (value_at row b))) ≡ true
      by a b l m true e = tie-holds row a b (h a b l m e)
      by a b l m false e = refl

-- the equalities that variables make in a span read its columns
pub ties-inside : (span : Span) (variables : List (List ℕ)) → list_all (reads_within span) (map tie_test (ties_within span variables)) ≡ true
ties-inside span variables = all-spread (reads_within span) tie_test (λ v. ties_in (filter (lies_in span) v)) variables (each variables)
  where
    others : (c : ℕ) (cs : List ℕ) → lies_in span c ≡ true → list_all (lies_in span) cs ≡ true → list_all (reads_within span) (map tie_test (map (λ d. (c, d)) cs)) ≡ true
    others c [] l h = refl
    others c (d ∷ cs) l h =
        let parts = and_parts (lies_in span d) (list_all (lies_in span) cs) h in
        and_from (lies_in span c && (lies_in span d && true)) (list_all (reads_within span) (map tie_test (map (λ d. (c, d)) cs)))
        (and_from (lies_in span c) (lies_in span d && true) l (and_from (lies_in span d) true parts.0 refl)) (others c cs l parts.1)

    one : (cs : List ℕ) → list_all (lies_in span) cs ≡ true → list_all (reads_within span) (map tie_test (ties_in cs)) ≡ true
    one [] h = refl
    one (c ∷ cs) h = let parts = and_parts (lies_in span c) (list_all (lies_in span) cs) h in others c cs parts.0 parts.1

    each : (vs : List (List ℕ)) → Each (λ v. list_all (reads_within span) (map tie_test (ties_in (filter (lies_in span) v))) ≡ true) vs
    each [] = tt
    each (v ∷ vs) = (one (filter (lies_in span) v) (all-passing (lies_in span) v), each vs)

-- where the classes agree in a span, two columns of one class that lie in it are equal
agreed-pair : (span : Span) (row : Row) (variables : List (List ℕ)) → classes_agree (flat_map ties_in variables) (columns_in span) row ≡ true
    → (a b : ℕ) → leader (flat_map ties_in variables) a ≡ leader (flat_map ties_in variables) b → (s : Bool) → lies_in span a ≡ s → (t : Bool) → lies_in span b ≡ t
    → (not (reads_within span (tie_test (a, b))) || holds (tie_test (a, b)) row) ≡ true
agreed-pair span row variables h a b e true f true g =
    or_right (not (reads_within span (tie_test (a, b)))) (holds (tie_test (a, b)) row)
    (at-pair span row (flat_map ties_in variables) h a b f g (grind (arith, nat_tests, e)))
agreed-pair span row variables h a b e true f false g = λ i. not (f i && (g i && true)) || holds (tie_test (a, b)) row
agreed-pair span row variables h a b e false f t g = λ i. not (f i && (lies_in span b && true)) || holds (tie_test (a, b)) row

-- and so does each equality of two columns of one variable
pub tied-agreed : (span : Span) (row : Row) (variables : List (List ℕ)) → classes_agree (flat_map ties_in variables) (columns_in span) row ≡ true
    → (e : Scalar) → is_tied variables e ≡ true → (not (reads_within span e) || holds e row) ≡ true
tied-agreed span row variables h e t =
    tied-passes (λ (x c : ℕ). leader (flat_map ties_in variables) c ≡ x) (λ e. not (reads_within span e) || holds e row)
    (λ x a b e f. agreed-pair span row variables h a b (e ∙ sym f) (lies_in span a) refl (lies_in span b) refl) variables (each-led variables) e t

-- where the classes agree in a span, the equalities of variables that lie in it hold
pub ties-agreed : (span : Span) (row : Row) (variables : List (List ℕ)) → classes_agree (flat_map ties_in variables) (columns_in span) row ≡ true
    → (other : Span) → list_all (λ e. not (reads_within span e) || holds e row) (map tie_test (ties_within other variables)) ≡ true
ties-agreed span row variables h other =
    ties-pass (λ (x c : ℕ). leader (flat_map ties_in variables) c ≡ x) (λ e. not (reads_within span e) || holds e row)
    (λ x a b e f. agreed-pair span row variables h a b (e ∙ sym f) (lies_in span a) refl (lies_in span b) refl) other variables (each-led variables)

-- ---- columns of one variable alone

-- whether a column is of a variable
abbrev has : ℕ → List ℕ → Bool
has c columns = list_any (λ d. c == d) columns

module _ (span : Span) (row : Row) where
  -- the value of the first column of a list
  abbrev first_value : List ℕ → Option Value
  first_value [] = None
  first_value (c ∷ cs) = Some (value_at row c)

  -- what a column shares with those of its variable: the value of the first that lies in the span; its own where it has no variable
  abbrev shared : List (List ℕ) → ℕ → Option Value
  shared [] c = Some (value_at row c)
  shared (v ∷ vs) c = cond (has c v) (first_value (filter (lies_in span) v)) (shared vs c)

  member-value : (a : ℕ) (x : Value) (cs : List ℕ) → has a cs ≡ true → Each (λ c. value_at row c ≡ x) cs → value_at row a ≡ x
  member-value a x [] e h = cc
  member-value a x (c ∷ cs) e h = by (a == c) refl e (λ k. member-value a x cs k h.1)
    where
      by : (t : Bool) → (a == c) ≡ t → (t || has a cs) ≡ true → (has a cs ≡ true → value_at row a ≡ x) → value_at row a ≡ x
      by true f e rest = ap (value_at row) (eqb-true a c f) ∙ h.0
      by false f e rest = rest e

  kept-member : (a : ℕ) (cs : List ℕ) → lies_in span a ≡ true → has a cs ≡ true → has a (filter (lies_in span) cs) ≡ true
  kept-member a [] l e = e
  kept-member a (c ∷ cs) l e = by (a == c) refl (lies_in span c) refl e (λ k. kept-member a cs l k)
    where
      by : (t : Bool) → (a == c) ≡ t → (u : Bool) → lies_in span c ≡ u → (t || has a cs) ≡ true → (has a cs ≡ true → has a (filter (lies_in span) cs) ≡ true)
          → has a (cond u (c ∷ filter (lies_in span) cs) (filter (lies_in span) cs)) ≡ true
      by true f true g e rest = or_left (a == c) (has a (filter (lies_in span) cs)) f
      by true f false g e rest = let no : true ≡ false = sym l ∙ ap (lies_in span) (eqb-true a c f) ∙ g in absurd (cc)
      by false f true g e rest = or_right (a == c) (has a (filter (lies_in span) cs)) (rest e)
      by false f false g e rest = rest e

  first-member : (a : ℕ) (cs : List ℕ) → has a cs ≡ true → OneValue (value_at row) cs → first_value cs ≡ Some (value_at row a)
  first-member a [] e h = cc
  first-member a (c ∷ cs) e h = ap Some (h.1.0 ∙ sym (member-value a h.0 (c ∷ cs) e h.1))

  -- a column of the span shares its own value, where the equalities there hold
  shared-own : (vs : List (List ℕ)) → Each (λ v. OneValue (value_at row) (filter (lies_in span) v)) vs → (a : ℕ) → lies_in span a ≡ true
      → shared vs a ≡ Some (value_at row a)
  shared-own [] h a l = refl
  shared-own (v ∷ vs) h a l = by (has a v) refl (shared-own vs h.1 a l)
    where
      by : (t : Bool) → has a v ≡ t → shared vs a ≡ Some (value_at row a) → cond t (first_value (filter (lies_in span) v)) (shared vs a) ≡ Some (value_at row a)
      by true e rest = first-member a (filter (lies_in span) v) (kept-member a v l e) h.0
      by false e rest = rest

  -- columns of one variable share one value
  each-has : (cs : List ℕ) → Each (λ d. has d cs ≡ true) cs
  each-has [] = tt
  each-has (c ∷ cs) =
      (or_left (c == c) (has c cs) (eq-eqb c c refl), each-map (λ d. has d cs ≡ true) (λ d. has d (c ∷ cs) ≡ true) (λ d e. or_right (d == c) (has d cs) e) cs (each-has cs))

  own-alike : (v : List ℕ) (vs : List (List ℕ)) → Alike (shared (v ∷ vs)) (ties_in v)
  own-alike [] vs = tt
  own-alike (c ∷ cs) vs = let all = each-has (c ∷ cs) in others cs all.1
    where
      shares : (d : ℕ) → has d (c ∷ cs) ≡ true → shared ((c ∷ cs) ∷ vs) d ≡ first_value (filter (lies_in span) (c ∷ cs))
      shares d e = ap (λ t. cond t (first_value (filter (lies_in span) (c ∷ cs))) (shared vs d)) e

      others : (ds : List ℕ) → Each (λ d. has d (c ∷ cs) ≡ true) ds → Alike (shared ((c ∷ cs) ∷ vs)) (map (λ d. (c, d)) ds)
      others [] h = tt
      others (d ∷ ds) h = (shares c (or_left (c == c) (has c cs) (eq-eqb c c refl)) ∙ sym (shares d h.0), others ds h.1)

  -- pairs of columns that are not of a variable share as they do without it
  abbrev Outside : List ℕ → List (ℕ × ℕ) → Type 0
  Outside v pairs = Each (λ (p : ℕ × ℕ). (has p.0 v ≡ false) × (has p.1 v ≡ false)) pairs

  outside-alike : (v : List ℕ) (vs : List (List ℕ)) (pairs : List (ℕ × ℕ)) → Outside v pairs → Alike (shared vs) pairs → Alike (shared (v ∷ vs)) pairs
  outside-alike v vs [] h k = tt
  outside-alike v vs (p ∷ pairs) h k = (
    ap (λ t. cond t (first_value (filter (lies_in span) v)) (shared vs p.0)) h.0.0 ∙ k.0
        ∙ sym (ap (λ t. cond t (first_value (filter (lies_in span) v)) (shared vs p.1)) h.0.1),
    outside-alike v vs pairs h.1 k.1,
  )

  ties-outside : (v w : List ℕ) → Each (λ c. has c v ≡ false) w → Outside v (ties_in w)
  ties-outside v [] h = tt
  ties-outside v (c ∷ cs) h = others cs h.1
    where
      others : (ds : List ℕ) → Each (λ d. has d v ≡ false) ds → Outside v (map (λ d. (c, d)) ds)
      others [] k = tt
      others (d ∷ ds) k = ((h.0, k.0), others ds k.1)

  all-outside : (v : List ℕ) (vs : List (List ℕ)) → Each (λ c. has c v ≡ false) (flat_map (λ w. w) vs) → Outside v (flat_map ties_in vs)
  all-outside v [] h = tt
  all-outside v (w ∷ vs) h =
      let parts = each-apart (λ c. has c v ≡ false) w (flat_map (λ u. u) vs) h in
      each-append (λ (p : ℕ × ℕ). (has p.0 v ≡ false) × (has p.1 v ≡ false)) (ties_in w) (flat_map ties_in vs) (ties-outside v w parts.0) (all-outside v vs parts.1)

  none-equal : (x : ℕ) (cs : List ℕ) → has x cs ≡ false → Each (λ c. (c == x) ≡ false) cs
  none-equal x [] h = tt
  none-equal x (c ∷ cs) h =
      let parts = or_parts (x == c) (has x cs) h in (turned (c == x) refl parts.0, none-equal x cs parts.1)
    where
      turned : (t : Bool) → (c == x) ≡ t → (x == c) ≡ false → (c == x) ≡ false
      turned true e f = let no : true ≡ false = sym (eq-eqb x c (sym (eqb-true c x e))) ∙ f in absurd (cc)
      turned false e f = e

  -- of columns that all differ none of those behind is one of those before
  apart : (v ws : List ℕ) → all_different (v ++ ws) ≡ true → Each (λ c. has c v ≡ false) ws × (all_different ws ≡ true)
  apart [] ws h = (each-of (λ c. false ≡ false) (λ c. refl) ws, h)
  apart (x ∷ v) ws h =
      let parts = and_parts (not (has x (v ++ ws))) (all_different (v ++ ws)) h in
      let rest = apart v ws parts.1 in
      let none = or_parts (has x v) (has x ws) (sym (list_any-append (λ d. x == d) v ws) ∙ not-true (has x (v ++ ws)) parts.0) in
      (each-both (λ c. (c == x) ≡ false) (λ c. has c v ≡ false) (λ c. has c (x ∷ v) ≡ false) (λ c e f. or_from (c == x) (has c v) e f) ws (none-equal x ws none.1) rest.0, rest.1)

  -- where no column is of two variables, the columns of each share one value
  shared-alike : (vs : List (List ℕ)) → all_different (flat_map (λ v. v) vs) ≡ true → Alike (shared vs) (flat_map ties_in vs)
  shared-alike [] h = tt
  shared-alike (v ∷ vs) h =
      let parts = apart v (flat_map (λ w. w) vs) h in
      alike-append (shared (v ∷ vs)) (ties_in v) (flat_map ties_in vs) (own-alike v vs)
      (outside-alike v vs (flat_map ties_in vs) (all-outside v vs parts.0) (shared-alike vs parts.1))

unwrapped : (x y : Value) → Some x ≡ Some y → x ≡ y
unwrapped x y e = ap (λ o. unwrap_or o x) e

-- the equalities that variables make in a span hold exactly where the classes agree there
pub ties-exact : (span : Span) (row : Row) (variables : List (List ℕ)) → all_different (flat_map (λ v. v) variables) ≡ true
    → all_hold (map tie_test (ties_within span variables)) row ≡ classes_agree (flat_map ties_in variables) (columns_in span) row
ties-exact span row variables different =
    same-truth (all_hold (map tie_test (ties_within span variables)) row) (classes_agree (flat_map ties_in variables) (columns_in span) row) forth back
  where
    forth : all_hold (map tie_test (ties_within span variables)) row ≡ true → classes_agree (flat_map ties_in variables) (columns_in span) row ≡ true
    forth h =
        let own = shared-own span row variables (each-one (value_at row) (value_at row 0) (filter (lies_in span)) variables (holding-alike row (ties_within span variables) h)) in
        from-pairs span row (flat_map ties_in variables)
        (λ a b la lb e. unwrapped (value_at row a) (value_at row b)
        (sym (own a la) ∙ class-colour (shared span row variables) (flat_map ties_in variables) (shared-alike span row variables different) a b e ∙ own b lb))

    back : classes_agree (flat_map ties_in variables) (columns_in span) row ≡ true → all_hold (map tie_test (ties_within span variables)) row ≡ true
    back h =
        sym (all-where (reads_within span) (λ e. holds e row) (map tie_test (ties_within span variables)) (ties-inside span variables))
        ∙ ties-agreed span row variables h span
