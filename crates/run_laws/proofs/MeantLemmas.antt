-- A step's result is its term over what its sources stand for, whatever steps come later, and so is its fault.
use Rattle.std.proofs.Common.{◌≡◌, ℕ, ◌<◌, ◌≤◌, ◌==◌, Bool, true, false, cond, List, [], ◌∷◌, map, refl, sym, ◌∙◌, ap, arith, Option, Some, None, inl, inr}
use Rattle.std.specs.Prelude.{All, Contains, IsTrue, ⊤, find, fold, is_some, nat_lt, option_map, unwrap_or}
use Rattle.std.proofs.lemmas.Bool.{eqb-true, eq-eqb, ltb-true}
use Rattle.std.proofs.lemmas.List.Elements.{All-nil, All-cons, All-head, All-tail, All-weaker}
use Rattle.rel_base.specs.declared.faults.RunFault.{RunFault}
use Rattle.rel_base.specs.Keys.{File}
use Rattle.rel_base.specs.Relations.{RelationState}
use Rattle.myrial_ast.specs.Combinations.{Rows}
use Rattle.myrial_ast.specs.CandidateFaults.{FaultRule}
use Rattle.algebra.specs.declared.terms.Source.{Source}
use Rattle.algebra.specs.declared.terms.Source.TheVariants as source
use Rattle.algebra.specs.declared.terms.StoreStep.{StoreStep}
use Rattle.algebra.specs.Trees.{StepTree, CheckedTree}
use Rattle.algebra.specs.Conditions.{kinds_of_columns, source_kinds, is_term, are_steps, is_of}
use Rattle.algebra.specs.Meanings.{found, sources_of, term_fault, is_used, needed_steps, first_fault, no_relation, relations_of, step_relation, step_relations}
use Rattle.algebra.proofs.MemberLemmas.{first_or_behind, nothing_in_none}
use Rattle.placement.specs.Layouts.{PlacedRelation, Placing, placed_nothing, placed_files, placed_source, placed_step, placed_steps}
use Rattle.placement.proofs.WidthLemmas.{three}
use Rattle.placement.proofs.ScriptLemmas.{checked-steps}
use Rattle.placement.proofs.StoredLemmas.{source-same, steps-same}
use Rattle.run_laws.specs.Values.{IsKnown, meant, result_of, first_of, step_fault, StepsAreMeant, FaultsAreOfSteps}
use Rattle.run_laws.proofs.SourceLemmas.{term-known, fault-same, placed_rows-same, parts-same}

-- ---- numbers rise, and sources are files or of lower numbers

-- a file, or a statement up to this one
abbrev pub IsUpTo : ℕ → Source → Type 0
IsUpTo last (source.File place) = ⊤
IsUpTo last (source.Result number) = number ≤ last

abbrev pub AreInOrder : ℕ → List StepTree → Type 0
AreInOrder last [] = ⊤
AreInOrder last (s ∷ rest) = (last < s.statement) × All (IsUpTo last) (sources_of s.term) × AreInOrder s.statement rest

statement-low : (last number : ℕ) (earlier : List StepTree) → All (λ (s : StepTree). s.statement ≤ last) earlier
    → Contains (map (λ (s : StepTree). s.statement) earlier) number → number ≤ last
statement-low last number [] low h = absurd (nothing_in_none number h)
statement-low last number (s ∷ earlier) low h =
    elim (first_or_behind s.statement (map (λ (s : StepTree). s.statement) earlier) number h) [
      | inl same ↦ omega (arith, same, All-head (λ (s : StepTree). s.statement ≤ last) s earlier low)
      | inr others ↦ statement-low last number earlier (All-tail (λ (s : StepTree). s.statement ≤ last) s earlier low) others
    ]

known-low : (files : List File) (last : ℕ) (earlier : List StepTree) → All (λ (s : StepTree). s.statement ≤ last) earlier
    → (o : Source) → IsKnown files earlier o → IsUpTo last o
known-low files last earlier low (source.File place) h = tt
known-low files last earlier low (source.Result number) h = statement-low last number earlier low h

pub in_order : (files : List File) (last : ℕ) (earlier steps : List StepTree) → All (λ (s : StepTree). s.statement ≤ last) earlier
    → are_steps files last earlier steps ≡ true → AreInOrder last steps
in_order files last earlier [] low h = tt
in_order files last earlier (s ∷ rest) low h =
    let parts = three (nat_lt last s.statement) (is_term (source_kinds files earlier) s.term (kinds_of_columns s.schema))
    (are_steps files s.statement (s ∷ earlier) rest) h in
    let rises = ltb-true last s.statement parts.0 in (
      rises,
      All-weaker (IsKnown files earlier) (IsUpTo last) (known-low files last earlier low) (sources_of s.term)
          (term-known files earlier s.term (kinds_of_columns s.schema) parts.1),
      in_order files s.statement (s ∷ earlier) rest
          (All-cons (λ (t : StepTree). t.statement ≤ s.statement) s earlier (omega arith)
          (All-weaker (λ (t : StepTree). t.statement ≤ last) (λ (t : StepTree). t.statement ≤ s.statement)
          (λ t l. omega (arith, l, rises)) earlier low)) parts.2,
    )

pub checked-order : (files : List File) (c : CheckedTree) → IsTrue (is_of files c) → AreInOrder 0 c.steps
checked-order files c h = in_order files 0 [] c.steps (All-nil (λ (s : StepTree). s.statement ≤ 0)) (checked-steps files c h)

-- ---- what a source stands for stays, whatever steps come later

module _ {X : Type 0} (nothing : X) (lent : List X) (value : List (ℕ × X) → StepTree → X) where
  abbrev after : List (ℕ × X) → List StepTree → List (ℕ × X)
  after results steps = fold (λ before (s : StepTree). (s.statement, value before s) ∷ before) results steps

  one-more : (results : List (ℕ × X)) (number : ℕ) (x : X) (last : ℕ) → last < number → (o : Source) → IsUpTo last o
      → found nothing lent ((number, x) ∷ results) o ≡ found nothing lent results o
  one-more results number x last l (source.File place) h = refl
  one-more results number x last l (source.Result k) h = by (number == k) refl
    where
      by : (b : Bool) → (number == k) ≡ b
          → unwrap_or (option_map (λ (r : ℕ × X). r.1) (cond b (Some (number, x)) (find (λ (r : ℕ × X). r.0 == k) results))) nothing
          ≡ unwrap_or (option_map (λ (r : ℕ × X). r.1) (find (λ (r : ℕ × X). r.0 == k) results)) nothing
      by true e = absurd (omega (arith, eqb-true number k e, l, h))
      by false e = refl

  up-to-more : (last more : ℕ) → last ≤ more → (o : Source) → IsUpTo last o → IsUpTo more o
  up-to-more last more l (source.File place) h = tt
  up-to-more last more l (source.Result k) h = omega (arith, l, h)

  pub found-stays : (steps : List StepTree) (last : ℕ) → AreInOrder last steps → (results : List (ℕ × X)) (o : Source)
      → IsUpTo last o
      → found nothing lent (after results steps) o ≡ found nothing lent results o
  found-stays [] last order results o h = refl
  found-stays (s ∷ steps) last order results o h =
      found-stays steps s.statement order.2 ((s.statement, value results s) ∷ results) o
      (up-to-more last s.statement (omega (arith, order.0)) o h)
      ∙ one-more results s.statement (value results s) last order.0 o h

  pub found-own : (results : List (ℕ × X)) (number : ℕ) (x : X) → found nothing lent ((number, x) ∷ results) (source.Result number)
      ≡ x
  found-own results number x =
      ap (λ b. unwrap_or (option_map (λ (r : ℕ × X). r.1) (cond b (Some (number, x))
      (find (λ (r : ℕ × X). r.0 == number) results))) nothing)
      (eq-eqb number number refl)

-- ---- results

module _ (p : Placing) (files : List File) (final : List (ℕ × PlacedRelation)) where
  abbrev IsMeantAtEnd : StepTree → Type 0
  IsMeantAtEnd s = placed_source p files final (source.Result s.statement) ≡ result_of p (placed_source p files final) s

  abbrev placed-after : List (ℕ × PlacedRelation) → List StepTree → List (ℕ × PlacedRelation)
  placed-after results steps = after (placed_nothing p.workers) (placed_files p files) (placed_step p files) results steps

  -- where a source stands for the same at the end as before
  stays : (steps : List StepTree) (last : ℕ) → AreInOrder last steps → (results : List (ℕ × PlacedRelation))
      → placed-after results steps ≡ final
      → (o : Source) → IsUpTo last o → placed_source p files final o ≡ placed_source p files results o
  stays steps last order results e o h =
      sym (ap (λ all. placed_source p files all o) e)
      ∙ found-stays (placed_nothing p.workers) (placed_files p files) (placed_step p files) steps last order results o h

  step-same : (results : List (ℕ × PlacedRelation)) (s : StepTree)
      → All (λ o. placed_source p files results o ≡ placed_source p files final o) (sources_of s.term)
      → placed_step p files results s ≡ result_of p (placed_source p files final) s
  step-same results s h =
      let rows = placed_rows-same p s.statement (placed_source p files results) (placed_source p files final) s.term h in
      let parts = parts-same p s.statement (placed_source p files results) (placed_source p files final) s.term h in
      λ i. record { relation = record { schema = s.schema; rows = rows i }; parts = parts i }

  steps-meant : (steps : List StepTree) (last : ℕ) → AreInOrder last steps → (results : List (ℕ × PlacedRelation))
      → placed-after results steps ≡ final
      → All IsMeantAtEnd steps
  steps-meant [] last order results e = All-nil IsMeantAtEnd
  steps-meant (s ∷ steps) last order results e =
      let own = placed_step p files results s in
      All-cons IsMeantAtEnd s steps
      (stays steps s.statement order.2 ((s.statement, own) ∷ results) e (source.Result s.statement) (omega arith)
      ∙ found-own (placed_nothing p.workers) (placed_files p files) (placed_step p files) results s.statement own
      ∙ step-same results s
      (All-weaker (IsUpTo last) (λ o. placed_source p files results o ≡ placed_source p files final o)
      (λ o h. sym (stays (s ∷ steps) last order results e o h)) (sources_of s.term) order.1))
      (steps-meant steps s.statement order.2 ((s.statement, own) ∷ results) e)

pub steps_are_meant : StepsAreMeant
steps_are_meant p files c h =
    steps-meant p files (placed_steps p files c.steps) c.steps 0 (checked-order files c h) [] refl

-- ---- faults

module _ (rules : ℕ → FaultRule) (files : List File) (stores : List StoreStep) (final : List (ℕ × RelationState)) where
  abbrev rows-in : List (ℕ × RelationState) → Source → Rows
  rows-in results o = (found no_relation (relations_of files) results o).rows

  abbrev related-after : List (ℕ × RelationState) → List StepTree → List (ℕ × RelationState)
  related-after results steps = after no_relation (relations_of files) (step_relation files) results steps

  stays-related : (steps : List StepTree) (last : ℕ) → AreInOrder last steps → (results : List (ℕ × RelationState))
      → related-after results steps ≡ final
      → (o : Source) → IsUpTo last o → rows-in results o ≡ rows-in final o
  stays-related steps last order results e o h =
      let same = sym (found-stays no_relation (relations_of files) (step_relation files) steps last order results o h)
      ∙ ap (λ all. found no_relation (relations_of files) all o) e in
      λ i. (same i).rows

  one-first : (own later : Option RunFault) (others : List (Option RunFault)) → later ≡ first_of others
      → cond (is_some own) own later ≡ first_of (own ∷ others)
  one-first (Some fault) later others e = refl
  one-first None later others e = e

  faults-first : (steps : List StepTree) (last : ℕ) → AreInOrder last steps → (results : List (ℕ × RelationState))
      → related-after results steps ≡ final
      → first_fault rules files stores results steps ≡ first_of (map (step_fault rules (rows-in final)) (needed_steps stores steps))
  faults-first [] last order results e = refl
  faults-first (s ∷ steps) last order results e =
      by (is_used s.statement stores (needed_steps stores steps)) own
      (faults-first steps s.statement order.2 ((s.statement, step_relation files results s) ∷ results) e)
    where
      own : term_fault (rules s.statement) s.statement (rows-in results) s.term ≡ step_fault rules (rows-in final) s
      own =
          fault-same (rows-in results) (rows-in final) (rules s.statement) s.statement s.term
          (All-weaker (IsUpTo last) (λ o. rows-in results o ≡ rows-in final o)
          (λ o h. stays-related (s ∷ steps) last order results e o h) (sources_of s.term) order.1)

      by : (b : Bool) → term_fault (rules s.statement) s.statement (rows-in results) s.term ≡ step_fault rules (rows-in final) s
          → first_fault rules files stores ((s.statement, step_relation files results s) ∷ results) steps
          ≡ first_of (map (step_fault rules (rows-in final)) (needed_steps stores steps))
          → cond (is_some (cond b (term_fault (rules s.statement) s.statement (rows-in results) s.term) None))
          (cond b (term_fault (rules s.statement) s.statement (rows-in results) s.term) None)
          (first_fault rules files stores ((s.statement, step_relation files results s) ∷ results) steps)
          ≡ first_of (map (step_fault rules (rows-in final)) (cond b (s ∷ needed_steps stores steps) (needed_steps stores steps)))
      by true mine rest =
          one-first (term_fault (rules s.statement) s.statement (rows-in results) s.term)
          (first_fault rules files stores ((s.statement, step_relation files results s) ∷ results) steps)
          (map (step_fault rules (rows-in final)) (needed_steps stores steps)) rest
          ∙ ap (λ own. first_of (own ∷ map (step_fault rules (rows-in final)) (needed_steps stores steps))) mine
      by false mine rest = rest

-- ---- the relations of what is placed

pub meant-related : (p : Placing) (files : List File) (c : CheckedTree) (o : Source)
    → (meant p files c o).relation ≡ found no_relation (relations_of files) (step_relations files c.steps) o
meant-related p files c o =
    source-same p files (placed_steps p files c.steps) o ∙ ap (λ results. found no_relation (relations_of files) results o)
    (steps-same p files c.steps [])

pub faults_are_of_steps : FaultsAreOfSteps
faults_are_of_steps p files c h rules =
    faults-first rules files c.stores (step_relations files c.steps) c.steps 0 (checked-order files c h) [] refl
    ∙ (λ i. first_of (map (step_fault rules (λ o. (sym (meant-related p files c o) i).rows)) (needed_steps c.stores c.steps)))
