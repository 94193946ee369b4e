-- A needed step is ready once those before it are held.
use Rattle.std.proofs.Common.{◌≡◌, ℕ, suc, ◌<◌, List, [], ◌∷◌, length, drop, get_or, sym, subst, arith}
use Rattle.std.specs.Prelude.{All, IsTrue, take}
use Rattle.std.proofs.lemmas.List.Elements.{All-weaker}
use Rattle.std.proofs.lemmas.List.Sorted.{IsPermutation-refl}
use Rattle.rel_base.specs.declared.relations.Column.{Column}
use Rattle.rel_base.specs.Keys.{File}
use Rattle.rel_base.specs.Relations.{HasTypes, same_type, type_of}
use Rattle.myrial_ast.specs.Combinations.{Row, Rows}
use Rattle.bag_laws.specs.Permuted.{SameTables, no_table, a_table}
use Rattle.algebra.specs.declared.notes.PlanNote.TheVariants as note
use Rattle.algebra.specs.declared.terms.Source.{Source}
use Rattle.algebra.specs.declared.terms.Source.TheVariants as source
use Rattle.algebra.specs.Trees.{TermTree, Same, Empty, UnionAll, Diff, Distinct, Join, Group, StepTree, CheckedTree}
use Rattle.algebra.specs.Conditions.{is_of}
use Rattle.algebra.specs.Meanings.{sources_of}
use Rattle.algebra.specs.Rewriting.{AreTyped}
use Rattle.placement.specs.Layouts.{PlacedRelation, Placing, together, placed_file}
use Rattle.placement.specs.Laws.{IsPlaced, IsPlacing, IsSamePlaced}
use Rattle.placement.specs.Plans.{placing_by, plan_kind}
use Rattle.placement.proofs.RuleLemmas.{ruled_is_placing}
use Rattle.placement.proofs.WidthLemmas.{pointwise-length}
use Rattle.run_laws.specs.Values.{IsKnown, meant}
use Rattle.run_laws.specs.Rewritten.{needed}
use Rattle.run_laws.specs.Scripts.{AreRowsOf, HasTypedSources, IsMeantStep}
use Rattle.run_laws.specs.Held.{held_at, AreDealt, HasWideParts, IsReadyStep, StepsAreReady, ResultsAreHeld}
use Rattle.run_laws.proofs.NeededLemmas.{needed_are_over_needed}
use Rattle.run_laws.proofs.RewrittenLemmas.{split-at}
use Rattle.run_laws.proofs.ScriptLemmas.{files_are_meant, needed_are_meant}
use Rattle.run_laws.proofs.BagLemmas.{each-of, held_are_meant, ready_are_of_bags}
use Rattle.run_laws.proofs.FoundLemmas.{known-each}
use Rattle.run_laws.proofs.NoteLemmas.{notes_are_of_bags}

pub SameTables-refl : (ts : List Rows) → SameTables ts ts
SameTables-refl [] = no_table
SameTables-refl (rows ∷ ts) = a_table rows rows ts ts (IsPermutation-refl rows) (SameTables-refl ts)

-- a row of some columns is as wide as they are many
pub types-long : (schema : List Column) (row : Row) → HasTypes schema row → length row ≡ length schema
types-long schema row h = sym (pointwise-length (λ (c : Column) v. same_type c.kind (type_of v)) schema row h)

module _ (schema : List Column) (parts : Source → List Rows) where
  abbrev IsWide : Row → Type 0
  IsWide row = length row ≡ length schema

  each-wide : (sources : List Source) → All (AreRowsOf schema (held_at parts)) sources
      → All (λ o. All (All IsWide) (parts o)) sources
  each-wide sources h =
      All-weaker (AreRowsOf schema (held_at parts)) (λ o. All (All IsWide) (parts o))
      (λ o k. each-of IsWide (parts o) (All-weaker (HasTypes schema) IsWide (types-long schema) (together (parts o)) k)) sources h

  term-wide : (t : TermTree) → HasTypedSources schema (held_at parts) t → HasWideParts (length schema) parts t
  term-wide (Same s) h = each-wide (s ∷ []) h
  term-wide Empty h = each-wide [] h
  term-wide (UnionAll s t) h = each-wide (s ∷ t ∷ []) h
  term-wide (Diff s t) h = each-wide (s ∷ t ∷ []) h
  term-wide (Distinct s) h = each-wide (s ∷ []) h
  term-wide (Join shape sources) h = tt
  term-wide (Group shape sources kinds) h = tt

module _ (p : Placing) (files : List File) (c : CheckedTree) (parts : Source → List Rows) where
  abbrev IsHeldSource : Source → Type 0
  IsHeldSource o = SameTables (meant p files c o).parts (parts o)

  pub file-held : AreDealt p files parts → (place : ℕ) → place < length files → IsHeldSource (source.File place)
  file-held dealt place l = by files l
    where
      by : (lent : List File) → place < length lent → IsHeldSource (source.File place)
      by [] k = absurd (omega (arith, k))
      by (f ∷ lent) k =
          subst (λ (q : PlacedRelation). SameTables q.parts (parts (source.File place))) (sym (files_are_meant p files c place f l))
          (subst (λ ts. SameTables (placed_file p.workers (get_or files place f).1).parts ts) (sym (dealt place f l))
          (SameTables-refl (placed_file p.workers (get_or files place f).1).parts))

module _ (p : Placing) (files : List File) (c : CheckedTree) (good : IsPlacing p) (of_files : IsTrue (is_of files c))
    (typed : AreTyped files) (parts : Source → List Rows) where
  same-source : (o : Source) → IsHeldSource p files c parts o → IsSamePlaced (meant p files c o) (held_at parts o)
  same-source o h = record { rows = (held_are_meant p files c good of_files typed o (parts o) h).rows; parts = h }

  placed-source : (o : Source) → IsHeldSource p files c parts o → IsPlaced p.workers (held_at parts o)
  placed-source o h = record {
    each_worker = (held_are_meant p files c good of_files typed o (parts o) h).each_worker;
    all_rows = IsPermutation-refl (together (parts o));
  }

  ready-step : (s : StepTree) → IsMeantStep p files c s → All (IsHeldSource p files c parts) (sources_of s.term)
      → IsReadyStep p files c parts s
  ready-step s step held =
      let same = All-weaker (IsHeldSource p files c parts) (λ o. IsSamePlaced (meant p files c o) (held_at parts o)) same-source
      (sources_of s.term) held in
      let placed = All-weaker (IsHeldSource p files c parts) (λ o. IsPlaced p.workers (held_at parts o)) placed-source
      (sources_of s.term) held in
      let both = ready_are_of_bags p.workers s.schema (meant p files c) (held_at parts) s.term placed same step.ready step.typed in
      record { same = same; placed = placed; ready = both.0; typed = both.1; wide = term-wide s.schema parts s.term both.1 }

pub steps_are_ready : StepsAreReady
steps_are_ready p files c good of_files typed parts dealt i a l held =
    let s = get_or (needed c) i a in
    ready-step p files c good of_files typed parts s (needed_are_meant p files c good of_files typed i a l)
    (All-weaker (IsKnown files (take i (needed c))) (λ o. SameTables (meant p files c o).parts (parts o))
    (known-each (λ o. SameTables (meant p files c o).parts (parts o)) files (file-held p files c parts dealt)
    (take i (needed c)) held)
    (sources_of s.term)
    (needed_are_over_needed files c of_files (take i (needed c)) s (drop (suc i) (needed c)) (split-at (needed c) i a l)))

pub results_are_held : ResultsAreHeld
results_are_held s rules files c some of_files typed parts i a l same made are =
    let x = get_or (needed c) i a in
    let p = placing_by s rules in
    let good = ruled_is_placing s rules some in
    let step = needed_are_meant p files c good of_files typed i a l in
    let rows : SameTables (meant p files c (source.Result x.statement)).parts made =
    subst (λ (q : PlacedRelation). SameTables q.parts made) (sym step.result) are in
    let count = (held_are_meant p files c good of_files typed (source.Result x.statement) made rows).count in
    record {
      rows = rows;
      lines = λ local.
          (λ t. note.Statement x.statement (plan_kind x.term) (sym count t)
          ∷ notes_are_of_bags s rules local x.statement (meant p files c) (held_at parts) x.term same t);
    }
