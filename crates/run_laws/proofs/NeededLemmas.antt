-- The sources of needed steps and of stores are files and needed steps.
use Rattle.std.proofs.Common.{◌≡◌, ℕ, Bool, true, false, cond, List, [], ◌∷◌, ◌++◌, map, refl, sym, ◌∙◌, ap, subst, ◌⊎◌, inl, inr, get_or}
use Rattle.std.specs.Prelude.{All, Contains, IsTrue, filter, nat_lt}
use Rattle.std.specs.List.{list_all, list_any}
use Rattle.std.proofs.lemmas.Bool.{eq-eqb, eqb-true, or_right}
use Rattle.std.proofs.lemmas.List.Elements.{All-nil, All-cons, All-weaker, Contains-get_or, Contains-append_right}
use Rattle.rel_base.specs.Keys.{File}
use Rattle.algebra.specs.declared.terms.Source.{Source}
use Rattle.algebra.specs.declared.terms.Source.TheVariants as source
use Rattle.algebra.specs.declared.terms.StoreStep.{StoreStep}
use Rattle.algebra.specs.Trees.{StepTree, CheckedTree}
use Rattle.algebra.specs.Conditions.{kinds_of_columns, source_kinds, is_term, are_steps, is_store, is_of}
use Rattle.algebra.specs.Meanings.{is_result, is_used, needed_steps, sources_of, uses}
use Rattle.algebra.specs.Needed.{stored}
use Rattle.algebra.proofs.ShapeLemmas.{both}
use Rattle.algebra.proofs.NeededLemmas.{needed_by_rule}
use Rattle.algebra.proofs.MemberLemmas.{in_front, behind, first_or_behind, nothing_in_none, any-of}
use Rattle.placement.proofs.WidthLemmas.{three}
use Rattle.placement.proofs.ScriptLemmas.{checked-steps}
use Rattle.run_laws.specs.Values.{IsKnown, NeededAreOverNeeded, StoresAreOverNeeded}
use Rattle.run_laws.proofs.SourceLemmas.{some-known, term-known}

-- ---- the sources of needed steps

module _ (files : List File) where
  -- a source is known from the one list of steps or from the other
  abbrev IsKnownOf : List StepTree → List StepTree → Source → Type 0
  IsKnownOf done earlier o = IsKnown files done o ⊎ IsKnown files earlier o

  known-more : (s : StepTree) (earlier : List StepTree) (o : Source) → IsKnown files earlier o → IsKnown files (s ∷ earlier) o
  known-more s earlier (source.File place) h = h
  known-more s earlier (source.Result number) h = behind s.statement (map (λ (s : StepTree). s.statement) earlier) number h

  -- what is known from one step more is of that step or was known
  known-cases : (s : StepTree) (done : List StepTree) (o : Source) → IsKnown files (s ∷ done) o
      → (is_result s.statement o ≡ true) ⊎ IsKnown files done o
  known-cases s done (source.File place) h = inr h
  known-cases s done (source.Result number) h =
      elim (first_or_behind s.statement (map (λ (s : StepTree). s.statement) done) number h) [
        | inl same ↦ inl (eq-eqb number s.statement (sym same))
        | inr others ↦ inr others
      ]

  known-own : (s : StepTree) (earlier : List StepTree) (o : Source) → is_result s.statement o ≡ true → IsKnown files (s ∷ earlier) o
  known-own s earlier (source.File place) h = absurd (cc)
  known-own s earlier (source.Result number) h =
      subst (Contains (map (λ (s : StepTree). s.statement) (s ∷ earlier))) (sym (eqb-true number s.statement h))
      (in_front s.statement (map (λ (s : StepTree). s.statement) earlier))

  -- the step itself is needed
  past-needed : (s : StepTree) (done earlier : List StepTree) (o : Source) → IsKnownOf (s ∷ done) earlier o
      → IsKnownOf done (s ∷ earlier) o
  past-needed s done earlier o (inl h) = elim (known-cases s done o h) [
    | inl own ↦ inr (known-own s earlier o own)
    | inr old ↦ inl old
  ]
  past-needed s done earlier o (inr h) = inr (known-more s earlier o h)

  -- the step itself isn't
  past-unneeded : (s : StepTree) (done earlier : List StepTree) (o : Source) → (is_result s.statement o ≡ true → ⊥)
      → IsKnownOf (s ∷ done) earlier o → IsKnownOf done earlier o
  past-unneeded s done earlier o never (inl h) = elim (known-cases s done o h) [
    | inl own ↦ absurd (never own)
    | inr old ↦ inl old
  ]
  past-unneeded s done earlier o never (inr h) = inr h

  module _ (stores : List StoreStep) where
    AreOver : List StepTree → List StepTree → Type 0
    AreOver done needed =
        (earlier : List StepTree) (s : StepTree) (later : List StepTree) → needed ≡ earlier ++ s ∷ later
        → All (IsKnownOf done earlier) (sources_of s.term)

    used-by : (number : ℕ) (needed : List StepTree) (s : StepTree) (o : Source) → Contains needed s → Contains (sources_of s.term) o
        → is_result number o ≡ true → is_used number stores needed ≡ true
    used-by number needed s o among in_term e =
        or_right (list_any (λ (t : StoreStep). is_result number t.source) stores) (list_any (uses number) needed)
        (any-of (uses number) needed s among (any-of (is_result number) (sources_of s.term) o in_term e))

    needed-over : (steps : List StepTree) (last : ℕ) (done : List StepTree) → are_steps files last done steps ≡ true
        → AreOver done (needed_steps stores steps)
    unfolding AreOver
    needed-over [] last done h = none
      where
        none : (earlier : List StepTree) (s : StepTree) (later : List StepTree) → [] ≡ earlier ++ s ∷ later
            → All (IsKnownOf done earlier) (sources_of s.term)
        none [] s later e = absurd (cc)
        none (x ∷ earlier) s later e = absurd (cc)
    needed-over (first ∷ rest) last done h =
        let parts = three (nat_lt last first.statement) (is_term (source_kinds files done) first.term
        (kinds_of_columns first.schema)) (are_steps files first.statement (first ∷ done) rest) h in
        by (is_used first.statement stores (needed_steps stores rest)) refl
        (term-known files done first.term (kinds_of_columns first.schema) parts.1)
        (needed-over rest first.statement (first ∷ done) parts.2)
      where
        by : (b : Bool) → is_used first.statement stores (needed_steps stores rest) ≡ b
            → All (IsKnown files done) (sources_of first.term)
            → AreOver (first ∷ done) (needed_steps stores rest)
            → AreOver done (cond b (first ∷ needed_steps stores rest) (needed_steps stores rest))
        by true u own over [] s later e =
            let same : first ≡ s = cc in
            subst (λ (x : StepTree). All (IsKnownOf done []) (sources_of x.term)) same
            (All-weaker (IsKnown files done) (IsKnownOf done []) (λ o k. inl k) (sources_of first.term) own)
        by true u own over (x ∷ earlier) s later e =
            let same : first ≡ x = cc in
            let others : needed_steps stores rest ≡ earlier ++ s ∷ later = cc in
            subst (λ x. All (IsKnownOf done (x ∷ earlier)) (sources_of s.term)) same
            (All-weaker (IsKnownOf (first ∷ done) earlier) (IsKnownOf done (first ∷ earlier)) (past-needed first done earlier)
            (sources_of s.term)
            (over earlier s later others))
        by false u own over earlier s later e = λ k d l.
            past-unneeded first done earlier (get_or (sources_of s.term) k d)
            (λ same.
            let used =
            used-by first.statement (needed_steps stores rest) s (get_or (sources_of s.term) k d)
            (subst (λ steps. Contains steps s) (sym e) (Contains-append_right earlier (s ∷ later) s (in_front s later)))
            (Contains-get_or (sources_of s.term) k d l) same in
            cc)
            (over earlier s later e k d l)

pub needed_are_over_needed : NeededAreOverNeeded
unfolding AreOver
needed_are_over_needed files c h earlier s later e =
    All-weaker (IsKnownOf files [] earlier) (IsKnown files earlier) known (sources_of s.term)
    (needed-over files c.stores c.steps 0 [] (checked-steps files c h) earlier s later e)
  where
    known : (o : Source) → IsKnownOf files [] earlier o → IsKnown files earlier o
    known (source.File place) (inl k) = k
    known (source.Result number) (inl k) = absurd (nothing_in_none number k)
    known o (inr k) = k

-- ---- the sources of stores

-- the step of a number
step-of : (steps : List StepTree) (number : ℕ) → Contains (map (λ (s : StepTree). s.statement) steps) number
    → (s : StepTree) × Contains steps s × (s.statement ≡ number)
step-of [] number h = absurd (nothing_in_none number h)
step-of (s ∷ steps) number h = elim (first_or_behind s.statement (map (λ (s : StepTree). s.statement) steps) number h) [
  | inl same ↦ (s, in_front s steps, same)
  | inr others ↦ let found = step-of steps number others in (found.0, behind s steps found.0 found.1, found.2)
]

pub number-of : (steps : List StepTree) (s : StepTree) → Contains steps s
    → Contains (map (λ (s : StepTree). s.statement) steps) s.statement
number-of [] s h = absurd (nothing_in_none s h)
number-of (x ∷ steps) s h = elim (first_or_behind x steps s h) [
  | inl same ↦ subst (λ (y : StepTree). Contains (map (λ (s : StepTree). s.statement) (x ∷ steps)) y.statement) same
      (in_front x.statement (map (λ (s : StepTree). s.statement) steps))
  | inr others ↦ behind x.statement (map (λ (s : StepTree). s.statement) steps) s.statement (number-of steps s others)
]

kept-among : (p : StepTree → Bool) (steps : List StepTree) (s : StepTree) → Contains (filter p steps) s → Contains steps s
kept-among p [] s h = h
kept-among p (x ∷ steps) s h = by (p x) (kept-among p steps s) h
  where
    by : (b : Bool) → (Contains (filter p steps) s → Contains steps s) → Contains (cond b (x ∷ filter p steps) (filter p steps)) s
        → Contains (x ∷ steps) s
    by true rest k = elim (first_or_behind x (filter p steps) s k) [
      | inl same ↦ subst (Contains (x ∷ steps)) same (in_front x steps)
      | inr others ↦ behind x steps s (rest others)
    ]
    by false rest k = behind x steps s (rest k)

module _ (files : List File) (c : CheckedTree) (of_files : IsTrue (is_of files c)) where
  store-known : (t : StoreStep) (p : StepTree → Bool) → Contains c.stores t → (o : Source) → t.source ≡ o
      → IsKnown files (filter p c.steps) o
      → IsKnown files (needed_steps c.stores c.steps) o
  store-known t p among (source.File place) e h = h
  store-known t p among (source.Result number) e h =
      let found = step-of (filter p c.steps) number h in
      let in_steps = kept-among p c.steps found.0 found.1 in
      let is_stored = any-of (λ (t : StoreStep). is_result found.0.statement t.source) c.stores t among
      (ap (is_result found.0.statement) e ∙ eq-eqb number found.0.statement (sym found.2)) in
      subst (Contains (map (λ (s : StepTree). s.statement) (needed_steps c.stores c.steps))) found.2
      (number-of (needed_steps c.stores c.steps) found.0 ((needed_by_rule files c of_files found.0 in_steps).0
      (stored found.0.statement is_stored)))

  stores-known : (ts : List StoreStep) → ((t : StoreStep) → Contains ts t → Contains c.stores t)
      → list_all (is_store files c.steps) ts ≡ true
      → All (λ (t : StoreStep). IsKnown files (needed_steps c.stores c.steps) t.source) ts
  stores-known [] among h = All-nil (λ (t : StoreStep). IsKnown files (needed_steps c.stores c.steps) t.source)
  stores-known (t ∷ ts) among h =
      let parts = both (is_store files c.steps t) (list_all (is_store files c.steps) ts) h in
      let before : StepTree → Bool = λ s. nat_lt s.statement t.statement in
      All-cons (λ (t : StoreStep). IsKnown files (needed_steps c.stores c.steps) t.source) t ts
      (store-known t before (among t (in_front t ts)) t.source refl (some-known files (filter before c.steps) t.source parts.0))
      (stores-known ts (λ u k. among u (behind t ts u k)) parts.1)

pub stores_are_over_needed : StoresAreOverNeeded
stores_are_over_needed files c h =
    stores-known files c h c.stores (λ t k. k) (both (are_steps files 0 [] c.steps)
    (list_all (is_store files c.steps) c.stores) h).1
