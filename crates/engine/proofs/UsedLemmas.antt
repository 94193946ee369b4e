-- What is held is found as long as it is used.
use Rattle.std.proofs.Common.{◌≡◌, ℕ, ◌==◌, Bool, true, false, cond, not, IsTrue, List, [], ◌∷◌, ◌++◌, map, drop, length, get_or, refl, sym, ap, subst, ◌∙◌, Option, Some, inl, inr}
use Rattle.std.specs.Prelude.{All, IsSome, filter, find, option_map, unwrap_or}
use Rattle.std.specs.List.{list_any}
use Rattle.std.specs.Option.{option_or}
use Rattle.std.proofs.lemmas.Bool.{eq-eqb, eqb-true, not_from_true, not_from_false, and_right, or_left, or_right, or_cases}
use Rattle.std.proofs.lemmas.List.Elements.{All-nil, All-cons, All-head, All-tail}
use Rattle.std.proofs.lemmas.List.Folds.{find-append}
use Rattle.rel_base.specs.Keys.{File}
use Rattle.rel_base.specs.Relations.{HasTypes}
use Rattle.rel_base.specs.declared.relations.Column.{Column}
use Rattle.myrial_ast.specs.Combinations.{Row, Rows}
use Rattle.bag_laws.specs.Permuted.{SameTables}
use Rattle.algebra.specs.declared.terms.Source.{Source}
use Rattle.algebra.specs.declared.terms.Source.TheVariants as source
use Rattle.algebra.specs.declared.terms.StoreStep.{StoreStep}
use Rattle.algebra.specs.Meanings.{sources_of, is_result, uses, is_used}
use Rattle.algebra.specs.Rewriting.{AreTables}
use Rattle.algebra.specs.Trees.{TermTree, Same, Empty, UnionAll, Diff, Distinct, Join, Group, StepTree, CheckedTree}
use Rattle.plan_rewrite.specs.Planned.{is_last_use}
use Rattle.placement.specs.Laws.{IsPlaced, IsReady, IsSamePlaced, HasReadyItems}
use Rattle.placement.specs.Layouts.{Placing, rows_of, together}
use Rattle.routed_joins.specs.PlacedJoins.{placed_rows}
use Rattle.run_laws.specs.Values.{meant}
use Rattle.run_laws.specs.Scripts.{HasTypedSources}
use Rattle.run_laws.specs.Held.{held_at, HasWideParts, IsReadyStep, IsHeldStore, parts_in, IsIn}
use Rattle.engine.specs.inner.Held.{UsedAreHeld}

-- ---- lists

module _ {A B : Type 0} (f g : A → B) (items : List A) (same : All (λ o. f o ≡ g o) items) where
  -- what holds of each item's value holds of the same value
  pub moved-each : (P : A → B → Type 0) → All (λ o. P o (f o)) items → All (λ o. P o (g o)) items
  moved-each P h = λ k d l. subst (P (get_or items k d)) (same k d l) (h k d l)

same-map : {A B : Type 0} (f g : A → B) (items : List A) → All (λ o. f o ≡ g o) items → map f items ≡ map g items
same-map f g [] h = refl
same-map f g (o ∷ items) h =
    (λ k. All-head (λ o. f o ≡ g o) o items h k ∷ same-map f g items (All-tail (λ o. f o ≡ g o) o items h) k)

-- ---- what is found by number

module _ {X : Type 0} where
  abbrev at : ℕ → ℕ × X → Bool
  at number r = r.0 == number

  -- what is kept of some results is found among them as before
  found-among-kept : (keep : ℕ → Bool) (number : ℕ) → keep number ≡ true → (results : List (ℕ × X))
      → find (at number) (filter (λ r. keep r.0) results) ≡ find (at number) results
  found-among-kept keep number h [] = refl
  found-among-kept keep number h (r ∷ results) =
      by (r.0 == number) refl (keep r.0) refl (found-among-kept keep number h results)
    where
      by : (b : Bool) → (r.0 == number) ≡ b → (k : Bool) → keep r.0 ≡ k
          → find (at number) (filter (λ r. keep r.0) results) ≡ find (at number) results
          → find (at number) (cond k (r ∷ filter (λ r. keep r.0) results) (filter (λ r. keep r.0) results))
          ≡ cond b (Some r) (find (at number) results)
      by true e true f rest =
          ap (λ b. cond b (Some r) (find (at number) (filter (λ r. keep r.0) results))) e
      by true e false f rest =
          let kept : keep r.0 ≡ true = ap keep (eqb-true r.0 number e) ∙ h in absurd (cc)
      by false e true f rest =
          ap (λ b. cond b (Some r) (find (at number) (filter (λ r. keep r.0) results))) e ∙ rest
      by false e false f rest = rest

  -- what stands behind changes nothing of what is the same
  found-behind : (some every more : List (ℕ × X)) (number : ℕ) → find (at number) some ≡ find (at number) every
      → find (at number) (some ++ more) ≡ find (at number) (every ++ more)
  found-behind some every more number h =
      find-append (at number) some more ∙ ap (λ o. option_or o (find (at number) more)) h
      ∙ sym (find-append (at number) every more)

-- ---- what is used

-- what the steps behind the first one use is used
used-behind : (number : ℕ) (stores : List StoreStep) (step : StepTree) (later : List StepTree)
    → IsTrue (is_used number stores later) → IsTrue (is_used number stores (step ∷ later))
used-behind number stores step later h =
    elim (or_cases (list_any (λ (t : StoreStep). is_result number t.source) stores) (list_any (uses number) later) h) [
      | inl stored ↦ or_left (list_any (λ (t : StoreStep). is_result number t.source) stores) _ stored
      | inr taken ↦ or_right (list_any (λ (t : StoreStep). is_result number t.source) stores) _
          (or_right (uses number step) (list_any (uses number) later) taken)
    ]

-- what is found among some as among more, which is found there as among all
pub used-in-turn : (stores : List StoreStep) (left : List StepTree) (every more some : List (ℕ × List Rows))
    → UsedAreHeld stores left every more → UsedAreHeld stores left more some → UsedAreHeld stores left every some
used-in-turn stores left every more some h k number u = k number u ∙ h number u

module _ (stores : List StoreStep) (every some : List (ℕ × List Rows)) where
  -- one result more, after a step
  pub used-with-one-more : (step : StepTree) (later : List StepTree) (more : List (ℕ × List Rows))
      → UsedAreHeld stores (step ∷ later) every some → UsedAreHeld stores later (every ++ more) (some ++ more)
  used-with-one-more step later more h number k =
      found-behind some every more number (h number (used-behind number stores step later k))

  -- a result is kept until its last use
  pub used-without-last : (step : StepTree) (later : List StepTree) → UsedAreHeld stores later every some
      → UsedAreHeld stores later every (filter (λ r. not (is_last_use r.0 stores (step ∷ later))) some)
  used-without-last step later h number k =
      found-among-kept (λ n. not (is_last_use n stores (step ∷ later))) number
      (not_from_false (is_last_use number stores (step ∷ later))
      (and_right (uses number step) (not (is_used number stores later)) (not_from_true (is_used number stores later) k)))
      some
      ∙ h number k

-- ---- sources that are used

-- a source is found among some results as it is among all
abbrev IsSameSource : List (ℕ × List Rows) → List (ℕ × List Rows) → Source → Type 0
IsSameSource every some o =
    (number : ℕ) → IsTrue (is_result number o)
    → find (λ (r : ℕ × List Rows). r.0 == number) some ≡ find (λ (r : ℕ × List Rows). r.0 == number) every

module _ {A : Type 0} (f : A → Source) (every some : List (ℕ × List Rows)) where
  each-same : (items : List A)
      → ((number : ℕ) → IsTrue (list_any (λ a. is_result number (f a)) items)
      → find (λ (r : ℕ × List Rows). r.0 == number) some ≡ find (λ (r : ℕ × List Rows). r.0 == number) every)
      → All (λ a. IsSameSource every some (f a)) items
  each-same [] h = All-nil (λ a. IsSameSource every some (f a))
  each-same (a ∷ items) h =
      All-cons (λ a. IsSameSource every some (f a)) a items
      (λ number k. h number (or_left (is_result number (f a)) (list_any (λ a. is_result number (f a)) items) k))
      (each-same items
      (λ number k. h number (or_right (is_result number (f a)) (list_any (λ a. is_result number (f a)) items) k)))

module _ (dealt : List (List Rows)) (every some : List (ℕ × List Rows)) where
  same-parts : (o : Source) → IsSameSource every some o → parts_in dealt every o ≡ parts_in dealt some o
  same-parts (source.File place) h = refl
  same-parts (source.Result number) h =
      ap (λ (found : Option (ℕ × List Rows)). unwrap_or (option_map (λ (r : ℕ × List Rows). r.1) found) [])
      (sym (h number (eq-eqb number number refl)))

  in-some : (o : Source) → IsSameSource every some o → IsIn dealt every o → IsIn dealt some o
  in-some (source.File place) h k = k
  in-some (source.Result number) h k = subst IsSome (sym (h number (eq-eqb number number refl))) k

  -- what is known of stores over all results is known of them over some
  pub stores-among : (p : Placing) (files : List File) (c : CheckedTree) → UsedAreHeld c.stores [] every some
      → All (IsHeldStore p files c dealt every) c.stores → All (IsHeldStore p files c dealt some) c.stores
  stores-among p files c used h =
      λ k d l.
      let t = get_or c.stores k d in
      let same =
      each-same (λ (t : StoreStep). t.source) every some c.stores
      (λ number k. used number (or_left (list_any (λ (t : StoreStep). is_result number t.source) c.stores) false k)) k d l in
      record {
        there = in-some t.source same (h k d l).there;
        rows = subst (SameTables (meant p files c t.source).parts) (same-parts t.source same) (h k d l).rows;
      }

-- ---- a step's sources

module _ (v w : Source → List Rows) where
  placed-same : (sources : List Source) → All (λ o. v o ≡ w o) sources → map (held_at v) sources ≡ map (held_at w) sources
  placed-same sources same = same-map (held_at v) (held_at w) sources (λ k d l. ap placed_rows (same k d l))

  ready-of : (n : ℕ) (t : TermTree) → All (λ o. v o ≡ w o) (sources_of t) → HasReadyItems n (held_at v) t
      → HasReadyItems n (held_at w) t
  ready-of n (Same s) same h = tt
  ready-of n Empty same h = tt
  ready-of n (UnionAll s t) same h = tt
  ready-of n (Diff s t) same h = tt
  ready-of n (Distinct s) same h = tt
  ready-of n (Join shape sources) same h = subst (IsReady n shape) (placed-same sources same) h
  ready-of n (Group shape sources kinds) same h = (subst (IsReady n shape) (placed-same sources same) h.0, h.1)

  typed-of : (schema : List Column) (t : TermTree) → All (λ o. v o ≡ w o) (sources_of t)
      → HasTypedSources schema (held_at v) t → HasTypedSources schema (held_at w) t
  typed-of schema (Same s) same h =
      moved-each v w (s ∷ []) same (λ o rows. All (HasTypes schema) (together rows)) h
  typed-of schema Empty same h = All-nil (λ o. All (HasTypes schema) (together (w o)))
  typed-of schema (UnionAll s t) same h =
      moved-each v w (s ∷ t ∷ []) same (λ o rows. All (HasTypes schema) (together rows)) h
  typed-of schema (Diff s t) same h =
      moved-each v w (s ∷ t ∷ []) same (λ o rows. All (HasTypes schema) (together rows)) h
  typed-of schema (Distinct s) same h =
      moved-each v w (s ∷ []) same (λ o rows. All (HasTypes schema) (together rows)) h
  typed-of schema (Join shape sources) same h =
      subst (λ items. AreTables shape.atoms (rows_of items)) (placed-same sources same) h
  typed-of schema (Group shape sources kinds) same h =
      subst (λ items. AreTables shape.atoms (rows_of items)) (placed-same sources same) h

  wide-of : (width : ℕ) (t : TermTree) → All (λ o. v o ≡ w o) (sources_of t) → HasWideParts width v t → HasWideParts width w t
  wide-of width (Same s) same h =
      moved-each v w (s ∷ []) same (λ o rows. All (All (λ (row : Row). length row ≡ width)) rows) h
  wide-of width Empty same h = All-nil (λ o. All (All (λ (row : Row). length row ≡ width)) (w o))
  wide-of width (UnionAll s t) same h =
      moved-each v w (s ∷ t ∷ []) same (λ o rows. All (All (λ (row : Row). length row ≡ width)) rows) h
  wide-of width (Diff s t) same h =
      moved-each v w (s ∷ t ∷ []) same (λ o rows. All (All (λ (row : Row). length row ≡ width)) rows) h
  wide-of width (Distinct s) same h =
      moved-each v w (s ∷ []) same (λ o rows. All (All (λ (row : Row). length row ≡ width)) rows) h
  wide-of width (Join shape sources) same h = tt
  wide-of width (Group shape sources kinds) same h = tt

  -- a step that is ready over some rows is ready over the same rows
  ready-step : (p : Placing) (files : List File) (c : CheckedTree) (s : StepTree)
      → All (λ o. v o ≡ w o) (sources_of s.term) → IsReadyStep p files c v s → IsReadyStep p files c w s
  ready-step p files c s same h = record {
    same =
        moved-each v w (sources_of s.term) same (λ o rows. IsSamePlaced (meant p files c o) (placed_rows rows)) h.same;
    placed = moved-each v w (sources_of s.term) same (λ o rows. IsPlaced p.workers (placed_rows rows)) h.placed;
    ready = ready-of p.workers s.term same h.ready;
    typed = typed-of s.schema s.term same h.typed;
    wide = wide-of (length s.schema) s.term same h.wide;
  }

-- the first of the steps that are left is ready over what is held
pub ready-among : (p : Placing) (files : List File) (c : CheckedTree) (dealt : List (List Rows)) (every some : List (ℕ × List Rows))
    (x y : StepTree) (later : List StepTree) → sources_of x.term ≡ sources_of y.term
    → UsedAreHeld c.stores (y ∷ later) every some
    → All (IsIn dealt every) (sources_of x.term) × IsReadyStep p files c (parts_in dealt every) x
    → All (IsIn dealt some) (sources_of x.term) × IsReadyStep p files c (parts_in dealt some) x
ready-among p files c dealt every some x y later alike used h =
    let stored : ℕ → Bool = λ number. list_any (λ (t : StoreStep). is_result number t.source) c.stores in
    let each : All (IsSameSource every some) (sources_of x.term) =
    each-same (λ o. o) every some (sources_of x.term)
    (λ number k. used number (or_right (stored number) _ (or_left (uses number y) (list_any (uses number) later)
    (subst (λ (os : List Source). IsTrue (list_any (is_result number) os)) alike k)))) in (
      λ k d l. in-some dealt every some (get_or (sources_of x.term) k d) (each k d l) (h.0 k d l),
      ready-step (parts_in dealt every) (parts_in dealt some) p files c x
          (λ k d l. same-parts dealt every some (get_or (sources_of x.term) k d) (each k d l)) h.1,
    )

-- what is used is found behind the let-go of those that the first of the steps is the last one to use
used_let_go : (stores : List StoreStep) (steps : List StepTree) (every : List (ℕ × List Rows))
    → UsedAreHeld stores (drop 1 steps) every (filter (λ r. not (is_last_use r.0 stores steps)) every)
used_let_go stores [] every number used = found-among-kept (λ n. not (is_last_use n stores [])) number refl every
used_let_go stores (step ∷ later) every number used = used-without-last stores every every step later (λ number used. refl) number used

-- where nothing is let go, all is found
pub used_itself : (stores : List StoreStep) (steps : List StepTree) (every : List (ℕ × List Rows))
    → UsedAreHeld stores steps every every
used_itself stores steps every number used = refl

pub used_by_let_go : (stores : List StoreStep) (steps : List StepTree) (every some : List (ℕ × List Rows))
    → some ≡ filter (λ (r : ℕ × List Rows). not (is_last_use r.0 stores steps)) every → UsedAreHeld stores (drop 1 steps) every some
used_by_let_go stores steps every some kept =
    subst (UsedAreHeld stores (drop 1 steps) every) (sym kept) (used_let_go stores steps every)

-- what is found among some as among more is found so with the same results behind
pub used_with_more : (stores : List StoreStep) (steps : List StepTree) (every some more after : List (ℕ × List Rows))
    → UsedAreHeld stores steps every some → after ≡ some ++ more → UsedAreHeld stores steps (every ++ more) after
used_with_more stores steps every some more after h is number used =
    ap (λ (results : List (ℕ × List Rows)). find (λ (r : ℕ × List Rows). r.0 == number) results) is
    ∙ found-behind some every more number (h number used)
