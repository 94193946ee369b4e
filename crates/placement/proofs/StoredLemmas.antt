-- The relations that are placed are those that the script stores.
use Rattle.std.proofs.Common.{◌≡◌, ℕ, zero, suc, ◌==◌, Bool, true, false, cond, List, [], ◌∷◌, map, refl, ◌∙◌, ap, Some}
use Rattle.std.specs.Prelude.{find, option_map, unwrap_or, slice_index_or, fold}
use Rattle.rel_base.specs.declared.names.Key.{Key}
use Rattle.rel_base.specs.Keys.{File}
use Rattle.rel_base.specs.Relations.{RelationState}
use Rattle.algebra.specs.declared.terms.Source.{Source}
use Rattle.algebra.specs.declared.terms.Source.TheVariants as source
use Rattle.algebra.specs.declared.terms.StoreStep.{StoreStep}
use Rattle.algebra.specs.Trees.{StepTree}
use Rattle.algebra.specs.Meanings.{found, no_relation, relations_of, term_rows, step_relation, step_relations}
use Rattle.placement.specs.Layouts.{PlacedRelation, Placing, placed_nothing, placed_files, placed_source, placed_step, placed_steps}
use Rattle.placement.specs.Laws.{PlacedAreStored}

-- the relations alone
abbrev pub unplaced : List (ℕ × PlacedRelation) → List (ℕ × RelationState)
unplaced results = map (λ (r : ℕ × PlacedRelation). (r.0, r.1.relation)) results

module _ (p : Placing) (files : List File) where
  file-same : (lent : List File) (place : ℕ) → (slice_index_or (placed_files p lent) place (placed_nothing p.workers)).relation ≡ slice_index_or (relations_of lent) place no_relation
  file-same [] place = refl
  file-same (f ∷ lent) zero = refl
  file-same (f ∷ lent) (suc place) = file-same lent place

  result-same : (results : List (ℕ × PlacedRelation)) (number : ℕ)
      → (unwrap_or (option_map (λ (r : ℕ × PlacedRelation). r.1) (find (λ (r : ℕ × PlacedRelation). r.0 == number) results)) (placed_nothing p.workers)).relation
      ≡ unwrap_or (option_map (λ (r : ℕ × RelationState). r.1) (find (λ (r : ℕ × RelationState). r.0 == number) (unplaced results))) no_relation
  result-same [] number = refl
  result-same (r ∷ results) number = by (r.0 == number) (result-same results number)
    where
      by : (b : Bool)
          → (unwrap_or (option_map (λ (r : ℕ × PlacedRelation). r.1) (find (λ (r : ℕ × PlacedRelation). r.0 == number) results)) (placed_nothing p.workers)).relation
          ≡ unwrap_or (option_map (λ (r : ℕ × RelationState). r.1) (find (λ (r : ℕ × RelationState). r.0 == number) (unplaced results))) no_relation
          → (unwrap_or (option_map (λ (r : ℕ × PlacedRelation). r.1) (cond b (Some r) (find (λ (r : ℕ × PlacedRelation). r.0 == number) results))) (placed_nothing p.workers)).relation
          ≡ unwrap_or (option_map (λ (r : ℕ × RelationState). r.1) (cond b (Some (r.0, r.1.relation)) (find (λ (r : ℕ × RelationState). r.0 == number) (unplaced results)))) no_relation
      by true rest = refl
      by false rest = rest

  -- what a source has is what the script has of it
  pub source-same : (results : List (ℕ × PlacedRelation)) (o : Source) → (placed_source p files results o).relation ≡ found no_relation (relations_of files) (unplaced results) o
  source-same results (source.File place) = file-same files place
  source-same results (source.Result number) = result-same results number

  step-same : (results : List (ℕ × PlacedRelation)) (s : StepTree) → (placed_step p files results s).relation ≡ step_relation files (unplaced results) s
  step-same results s = λ i. record { schema = s.schema; rows = term_rows (λ o. (source-same results o i).rows) s.term }

  pub steps-same : (steps : List StepTree) (results : List (ℕ × PlacedRelation))
      → unplaced (fold (λ before (s : StepTree). (s.statement, placed_step p files before s) ∷ before) results steps)
      ≡ fold (λ before (s : StepTree). (s.statement, step_relation files before s) ∷ before) (unplaced results) steps
  steps-same [] results = refl
  steps-same (s ∷ steps) results =
      steps-same steps ((s.statement, placed_step p files results s) ∷ results)
      ∙ (λ i. fold (λ before (s : StepTree). (s.statement, step_relation files before s) ∷ before) ((s.statement, step-same results s i) ∷ unplaced results) steps)

  stores-same : (steps : List StepTree) (stores : List StoreStep)
      → map (λ (stored : Key × PlacedRelation). (stored.0, stored.1.relation)) (map {B = Key × PlacedRelation} (λ (s : StoreStep). (s.key, placed_source p files (placed_steps p files steps) s.source)) stores)
      ≡ map {B = File} (λ (s : StoreStep). (s.key, found no_relation (relations_of files) (step_relations files steps) s.source)) stores
  stores-same steps [] = refl
  stores-same steps (s ∷ stores) =
      let first : (placed_source p files (placed_steps p files steps) s.source).relation ≡ found no_relation (relations_of files) (step_relations files steps) s.source =
      source-same (placed_steps p files steps) s.source ∙ ap (λ results. found no_relation (relations_of files) results s.source) (steps-same steps []) in
      let rest = stores-same steps stores in
      λ i. (s.key, first i) ∷ rest i

pub placed_are_stored : PlacedAreStored
placed_are_stored p files c = stores-same p files c.steps c.stores
