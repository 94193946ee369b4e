-- The steps that are computed as needed are those that the rule says.
use Rattle.std.proofs.Common.{◌≡◌, ℕ, ◌<◌, ◌≤◌, ◌==◌, Bool, true, false, cond, List, [], ◌∷◌, refl, sym, ◌∙◌, ap, subst, arith, Option, Some, None, option_map, ◌⊎◌, inl, inr}
use Rattle.std.specs.Prelude.{Contains, ⊤, ◌&&◌, ◌||◌, find, is_some, nat_lt}
use Rattle.std.specs.List.{list_any}
use Rattle.std.specs.Cmp.Lexicographic.{pointwise}
use Rattle.std.proofs.lemmas.Bool.{eqb-true, ltb-true}
use Rattle.rel_base.specs.declared.values.ColType.{ColType}
use Rattle.rel_base.specs.Keys.{File}
use Rattle.algebra.specs.declared.terms.Source.{Source}
use Rattle.algebra.specs.declared.terms.Source.TheVariants as source
use Rattle.algebra.specs.declared.terms.StoreStep.{StoreStep}
use Rattle.algebra.specs.Trees.{AtomTree, TermTree, Same, Empty, UnionAll, Diff, Distinct, Join, Group, StepTree}
use Rattle.algebra.specs.ShapeConditions.{is_shape}
use Rattle.algebra.specs.Conditions.{kinds_of_columns, source_kinds, has_kinds, is_term, are_steps}
use Rattle.algebra.specs.Meanings.{sources_of, is_result, uses, is_used, needed_steps}
use Rattle.algebra.specs.Needed.{IsNeeded, stored, used, NeededByRule, NeededIsNeeded}
use Rattle.algebra.proofs.ShapeLemmas.{both}
use Rattle.algebra.proofs.MemberLemmas.{in_front, behind, first_or_behind, nothing_in_none, any-of}

-- ---- lists

either : (a b : Bool) → (a || b) ≡ true → (a ≡ true) ⊎ (b ≡ true)
either true b h = inl refl
either false b h = inr h

module _ {X : Type 0} where
  -- a test that some item passes
  any-found : (p : X → Bool) (xs : List X) → list_any p xs ≡ true → (x : X) × Contains xs x × (p x ≡ true)
  any-found p [] h = cc
  any-found p (x ∷ xs) h = elim (either (p x) (list_any p xs) h) [
    | inl here ↦ (x, in_front x xs, here)
    | inr later ↦ let found = any-found p xs later in (found.0, behind x xs found.0 found.1, found.2)
  ]

-- ---- numbers rise, and sources are of lower numbers

InOrder : ℕ → List StepTree → Type 0
InOrder last [] = ⊤
InOrder last (s ∷ rest) = (last < s.statement) × ((n : ℕ) → uses n s ≡ true → n < s.statement) × InOrder s.statement rest

-- the steps so far have numbers up to the last one
abbrev AreUpTo : ℕ → List StepTree → Type 0
AreUpTo last earlier = (n : ℕ) → is_some (find (λ (s : StepTree). s.statement == n) earlier) ≡ true → n ≤ last

up_to_next : (s : StepTree) (earlier : List StepTree) (last : ℕ) → last < s.statement → AreUpTo last earlier → AreUpTo s.statement (s ∷ earlier)
up_to_next s earlier last l h n = by (s.statement == n) refl
  where
    by : (t : Bool) → (s.statement == n) ≡ t
        → is_some (cond t (Some s) (find (λ (s : StepTree). s.statement == n) earlier)) ≡ true → n ≤ s.statement
    by true e k = omega (arith, eqb-true s.statement n e)
    by false e k = omega (arith, l, h n k)

module _ (files : List File) (earlier : List StepTree) (last : ℕ) (low : AreUpTo last earlier) (n : ℕ) where
  -- a source whose columns are known is an earlier step
  known : (o : Source) (columns : List ColType) → is_result n o ≡ true → has_kinds (source_kinds files earlier o) columns ≡ true → n ≤ last
  known (source.File place) columns h k = cc
  known (source.Result number) columns h k =
      low n (subst (λ m. is_some (find (λ (s : StepTree). s.statement == m) earlier) ≡ true) (eqb-true number n h)
      (by (find (λ (s : StepTree). s.statement == number) earlier) k))
    where
      by : (o : Option StepTree) → has_kinds (option_map (λ (s : StepTree). kinds_of_columns s.schema) o) columns ≡ true → is_some o ≡ true
      by (Some s) g = refl
      by None g = cc

  known-each : (sources : List Source) (atoms : List AtomTree) → list_any (is_result n) sources ≡ true
      → pointwise (λ s (a : AtomTree). has_kinds (source_kinds files earlier s) a.kinds) sources atoms ≡ true → n ≤ last
  known-each [] atoms h k = cc
  known-each (o ∷ sources) [] h k = cc
  known-each (o ∷ sources) (a ∷ atoms) h k =
      let parts = both (has_kinds (source_kinds files earlier o) a.kinds) (pointwise (λ s (b : AtomTree). has_kinds (source_kinds files earlier s) b.kinds) sources atoms) k in
      elim (either (is_result n o) (list_any (is_result n) sources) h) [
        | inl here ↦ known o a.kinds here parts.0
        | inr later ↦ known-each sources atoms later parts.1
      ]

  known-one : (o : Source) (columns : List ColType) → (is_result n o || false) ≡ true → has_kinds (source_kinds files earlier o) columns ≡ true → n ≤ last
  known-one o columns h k = elim (either (is_result n o) false h) [
    | inl here ↦ known o columns here k
    | inr never ↦ cc
  ]

  known-two : (o p : Source) (columns : List ColType) → (is_result n o || (is_result n p || false)) ≡ true
      → (has_kinds (source_kinds files earlier o) columns && has_kinds (source_kinds files earlier p) columns) ≡ true → n ≤ last
  known-two o p columns h k =
      let parts = both (has_kinds (source_kinds files earlier o) columns) (has_kinds (source_kinds files earlier p) columns) k in
      elim (either (is_result n o) (is_result n p || false) h) [
        | inl here ↦ known o columns here parts.0
        | inr later ↦ known-one p columns later parts.1
      ]

  source-before : (t : TermTree) (columns : List ColType) → list_any (is_result n) (sources_of t) ≡ true
      → is_term (source_kinds files earlier) t columns ≡ true → n ≤ last
  source-before (Same s) columns h k = known-one s columns h k
  source-before Empty columns h k = cc
  source-before (UnionAll s t) columns h k = known-two s t columns h k
  source-before (Diff s t) columns h k = known-two s t columns h k
  source-before (Distinct s) columns h k = known-one s columns h k
  source-before (Join shape sources) columns h k = known-each sources shape.atoms h (second (is_shape shape) _ _ k)
    where
      second : (a b c : Bool) → (a && b && c) ≡ true → b ≡ true
      second true true c g = refl
      second true false c g = cc
      second false b c g = cc
  source-before (Group shape sources kinds) columns h k = known-each sources shape.atoms h (second (is_shape shape) _ _ k)
    where
      second : (a b c : Bool) → (a && b && c) ≡ true → b ≡ true
      second true true c g = refl
      second true false c g = cc
      second false b c g = cc

three : (a b c : Bool) → (a && b && c) ≡ true → (a ≡ true) × (b ≡ true) × (c ≡ true)
three true true true h = (refl, refl, refl)
three true true false h = cc
three true false c h = cc
three false b c h = cc

in_order : (files : List File) (last : ℕ) (earlier steps : List StepTree) → AreUpTo last earlier → are_steps files last earlier steps ≡ true → InOrder last steps
unfolding InOrder
in_order files last earlier [] low h = tt
in_order files last earlier (s ∷ rest) low h =
    let parts = three (nat_lt last s.statement) (is_term (source_kinds files earlier) s.term (kinds_of_columns s.schema)) (are_steps files s.statement (s ∷ earlier) rest) h in
    let rises : last < s.statement = ltb-true last s.statement parts.0 in (
      rises,
      λ n u. omega (arith, rises, source-before files earlier last low n s.term (kinds_of_columns s.schema) u parts.1),
      in_order files s.statement (s ∷ earlier) rest (up_to_next s earlier last rises low) parts.2,
    )

-- ---- what is computed is needed

module _ (stores : List StoreStep) where
  -- the needed ones of the steps stand among them
  pub needed-among : (steps : List StepTree) (x : StepTree) → Contains (needed_steps stores steps) x → Contains steps x
  needed-among [] x h = h
  needed-among (s ∷ rest) x h = by (is_used s.statement stores (needed_steps stores rest)) (needed-among rest x) h
    where
      by : (t : Bool) → (Contains (needed_steps stores rest) x → Contains rest x)
          → Contains (cond t (s ∷ needed_steps stores rest) (needed_steps stores rest)) x → Contains (s ∷ rest) x
      by true among k = elim (first_or_behind s (needed_steps stores rest) x k) [
        | inl same ↦ subst (Contains (s ∷ rest)) same (in_front s rest)
        | inr others ↦ behind s rest x (among others)
      ]
      by false among k = behind s rest x (among k)

  IsNeeded-behind : (s : StepTree) (rest : List StepTree) (n : ℕ) → IsNeeded stores rest n → IsNeeded stores (s ∷ rest) n
  IsNeeded-behind s rest n (stored m h) = stored m h
  IsNeeded-behind s rest n (used m u among h by) = used m u (behind s rest u among) (IsNeeded-behind s rest u.statement h) by

  by_rule : (steps : List StepTree) (x : StepTree) → Contains (needed_steps stores steps) x → IsNeeded stores steps x.statement
  by_rule [] x h = absurd (nothing_in_none x h)
  by_rule (s ∷ rest) x h = by (is_used s.statement stores (needed_steps stores rest)) refl (λ y k. by_rule rest y k) h
    where
      own : ((y : StepTree) → Contains (needed_steps stores rest) y → IsNeeded stores rest y.statement)
          → is_used s.statement stores (needed_steps stores rest) ≡ true → IsNeeded stores (s ∷ rest) s.statement
      own later e = elim (either (list_any (λ (t : StoreStep). is_result s.statement t.source) stores) (list_any (uses s.statement) (needed_steps stores rest)) e) [
        | inl by_store ↦ stored s.statement by_store
        | inr by_step ↦
            let found = any-found (uses s.statement) (needed_steps stores rest) by_step in
            used s.statement found.0 (behind s rest found.0 (needed-among rest found.0 found.1))
            (IsNeeded-behind s rest found.0.statement (later found.0 found.1)) found.2
      ]

      by : (t : Bool) → is_used s.statement stores (needed_steps stores rest) ≡ t
          → ((y : StepTree) → Contains (needed_steps stores rest) y → IsNeeded stores rest y.statement)
          → Contains (cond t (s ∷ needed_steps stores rest) (needed_steps stores rest)) x → IsNeeded stores (s ∷ rest) x.statement
      by true e later k = elim (first_or_behind s (needed_steps stores rest) x k) [
        | inl same ↦ subst (λ (y : StepTree). IsNeeded stores (s ∷ rest) y.statement) same (own later e)
        | inr others ↦ IsNeeded-behind s rest x.statement (later x others)
      ]
      by false e later k = IsNeeded-behind s rest x.statement (later x k)

  -- ---- what is needed is computed

  kept-later : (s : StepTree) (rest : List StepTree) (x : StepTree) → Contains (needed_steps stores rest) x → Contains (needed_steps stores (s ∷ rest)) x
  kept-later s rest x h = by (is_used s.statement stores (needed_steps stores rest))
    where
      by : (t : Bool) → Contains (cond t (s ∷ needed_steps stores rest) (needed_steps stores rest)) x
      by true = behind s (needed_steps stores rest) x h
      by false = h

  kept-first : (s : StepTree) (rest : List StepTree) → is_used s.statement stores (needed_steps stores rest) ≡ true → Contains (needed_steps stores (s ∷ rest)) s
  kept-first s rest e =
      subst (λ t. Contains (cond t (s ∷ needed_steps stores rest) (needed_steps stores rest)) s) (sym e) (in_front s (needed_steps stores rest))

  or-left : (a b : Bool) → a ≡ true → (a || b) ≡ true
  or-left true b k = refl
  or-left false b k = cc

  or-right : (a b : Bool) → b ≡ true → (a || b) ≡ true
  or-right true b k = refl
  or-right false b k = k

  stored-kept : (steps : List StepTree) (x : StepTree) → Contains steps x → list_any (λ (t : StoreStep). is_result x.statement t.source) stores ≡ true
      → Contains (needed_steps stores steps) x
  stored-kept [] x h e = h
  stored-kept (s ∷ rest) x h e = elim (first_or_behind s rest x h) [
    | inl same ↦
        subst (Contains (needed_steps stores (s ∷ rest))) same
        (kept-first s rest (or-left _ (list_any (uses s.statement) (needed_steps stores rest))
        (subst (λ (y : StepTree). list_any (λ (t : StoreStep). is_result y.statement t.source) stores ≡ true) (sym same) e)))
    | inr others ↦ kept-later s rest x (stored-kept rest x others e)
  ]

  -- numbers behind are higher
  higher : (last : ℕ) (steps : List StepTree) (x : StepTree) → InOrder last steps → Contains steps x → last < x.statement
  unfolding InOrder
  higher last [] x o h = absurd (nothing_in_none x h)
  higher last (s ∷ rest) x o h = elim (first_or_behind s rest x h) [
    | inl same ↦ subst (λ (y : StepTree). last < y.statement) same o.0
    | inr others ↦ omega (arith, o.0, higher s.statement rest x o.2 others)
  ]

  used-kept : (last : ℕ) (steps : List StepTree) (u x : StepTree) → InOrder last steps → Contains (needed_steps stores steps) u → Contains steps x
      → uses x.statement u ≡ true → Contains (needed_steps stores steps) x
  unfolding InOrder
  used-kept last [] u x o h k e = absurd (nothing_in_none x k)
  used-kept last (s ∷ rest) u x o h k e = elim (first_or_behind s rest x k) [
    | inl same ↦ subst (Contains (needed_steps stores (s ∷ rest))) same (kept-first s rest (first-used same))
    | inr others ↦ kept-later s rest x (used-kept s.statement rest u x o.2 (later others) others e)
  ]
    where
      -- what uses a step stands behind it
      later_than : x.statement ≡ s.statement ⊎ (s.statement < x.statement) → Contains (needed_steps stores rest) u
      later_than place = by (is_used s.statement stores (needed_steps stores rest)) h
        where
          never : s ≡ u → ⊥
          never same =
              let low : x.statement < s.statement = o.1 x.statement (subst (λ (y : StepTree). uses x.statement y ≡ true) (sym same) e) in
              elim place [
                | inl equal ↦ omega (arith, low, equal)
                | inr above ↦ omega (arith, low, above)
              ]

          by : (t : Bool) → Contains (cond t (s ∷ needed_steps stores rest) (needed_steps stores rest)) u → Contains (needed_steps stores rest) u
          by true g = elim (first_or_behind s (needed_steps stores rest) u g) [
            | inl same ↦ absurd (never same)
            | inr others ↦ others
          ]
          by false g = g

      later : Contains rest x → Contains (needed_steps stores rest) u
      later others = later_than (inr (higher s.statement rest x o.2 others))

      first-used : s ≡ x → is_used s.statement stores (needed_steps stores rest) ≡ true
      first-used same =
          let number : x.statement ≡ s.statement = ap (λ (y : StepTree). y.statement) (sym same) in
          or-right (list_any (λ (t : StoreStep). is_result s.statement t.source) stores) (list_any (uses s.statement) (needed_steps stores rest))
          (any-of (uses s.statement) (needed_steps stores rest) u (later_than (inl number)) (subst (λ m. uses m u ≡ true) number e))

  all_kept : (last : ℕ) (steps : List StepTree) → InOrder last steps → (n : ℕ) → IsNeeded stores steps n
      → (x : StepTree) → Contains steps x → x.statement ≡ n → Contains (needed_steps stores steps) x
  all_kept last steps o n (stored m h) x k e =
      stored-kept steps x k (subst (λ i. list_any (λ (t : StoreStep). is_result i t.source) stores ≡ true) (sym e) h)
  all_kept last steps o n (used m s among h by) x k e =
      used-kept last steps s x o (all_kept last steps o s.statement h s among refl) k (subst (λ i. uses i s ≡ true) (sym e) by)

pub needed_by_rule : NeededByRule
needed_by_rule files c h s among =
    let steps = (both (are_steps files 0 [] c.steps) _ h).0 in
    let order = in_order files 0 [] c.steps (λ n k. cc) steps in
    (λ needed. all_kept c.stores 0 c.steps order s.statement needed s among refl, λ computed. by_rule c.stores c.steps s computed)

-- ---- what is needed needs all of itself

pub needed_is_needed : NeededIsNeeded
needed_is_needed stores [] = refl
needed_is_needed stores (s ∷ rest) = by (is_used s.statement stores (needed_steps stores rest)) refl (needed_is_needed stores rest)
  where
    some : List StepTree
    some = needed_steps stores rest

    by : (b : Bool) → is_used s.statement stores some ≡ b → needed_steps stores some ≡ some → needed_steps stores (cond b (s ∷ some) some) ≡ cond b (s ∷ some) some
    by true e again =
        ap (λ steps. cond (is_used s.statement stores steps) (s ∷ steps) steps) again ∙ ap (λ b. cond b (s ∷ some) some) e
    by false e again = again
