-- Rows that are held while a script runs: the step at a place may run over them once the steps before it have run.
--
--   held_at parts o                 rows at workers that a source stands for, as a placed relation
--   AreDealt p files parts          those of files are dealt to the workers
--   IsHeldStep p files c parts s    those of a step's result are, worker by worker, the bags that it means
--   HasWideParts width parts t      the rows of a term's operands are so wide
--   IsReadyStep p files c parts s   the rows that a step's sources stand for are as it asks
--   StepsAreReady                   where the steps before a needed one are held, it is ready
--   IsHeldResult s rules files c parts x made
--                                   the result of a step that ran over what is held, and its lines of the plan
--   ResultsAreHeld                  what a needed step comes to over what is held is such a result
--   parts_in dealt results o        what is held for a source, among the rows of files and of numbered results
--   IsIn dealt results o            it is there
--   AreHeld p files c steps ..      the files and these steps are held
--   HeldAreReady                    where those before a needed step are held, its sources are there, and it is ready
--   OneMoreIsHeld                   with its result at the end one step more is held
--   StoresAreHeld                   where all needed steps are held, so is what is stored
use Rattle.std.specs.Prelude.{◌≡◌, ⊤, ℕ, ◌+◌, ◌<◌, ◌≤◌, ◌==◌, IsTrue, List, [], ◌∷◌, ◌++◌, map, length, find, take, All, IsSome, slice_index_or}
use Rattle.rel_base.specs.Keys.{File}
use Rattle.myrial_ast.specs.Combinations.{Row, Rows}
use Rattle.bag_laws.specs.Permuted.{SameTables}
use Rattle.algebra.specs.declared.notes.PlanNote.TheVariants as note
use Rattle.algebra.specs.declared.settings.JoinKind.{JoinKind}
use Rattle.algebra.specs.declared.settings.Settings.{Settings}
use Rattle.algebra.specs.declared.terms.Source.{Source}
use Rattle.algebra.specs.declared.terms.Source.TheVariants as source
use Rattle.algebra.specs.declared.terms.StoreStep.{StoreStep}
use Rattle.algebra.specs.Trees.{TermTree, Join, Group, StepTree, CheckedTree}
use Rattle.algebra.specs.Conditions.{is_of}
use Rattle.algebra.specs.Meanings.{found, sources_of}
use Rattle.algebra.specs.Rewriting.{AreTyped}
use Rattle.placement.specs.Layouts.{PlacedRelation, Placing, together, term_parts, placed_file}
use Rattle.placement.specs.Plans.{ShuffleRule, placing_by, plan_kind, term_notes, step_notes}
use Rattle.placement.specs.Laws.{IsPlaced, IsPlacing, IsSamePlaced, HasReadyItems}
use Rattle.run_laws.specs.Values.{meant}
use Rattle.run_laws.specs.Rewritten.{needed, numbers_of}
use Rattle.run_laws.specs.Scripts.{HasTypedSources}

-- what is held for a source, as a placed relation: all workers' rows together, whatever their columns are named
abbrev pub held_at : (Source → List Rows) → Source → PlacedRelation
held_at parts o =
    record { relation = record { schema = []; rows = together (parts o) }; parts = parts o }

-- for a file its rows are held, dealt to the workers
abbrev pub AreDealt : Placing → List File → (Source → List Rows) → Type 0
AreDealt p files parts =
    (place : ℕ) (f : File) → place < length files
    → parts (source.File place) ≡ (placed_file p.workers (slice_index_or files place f).1).parts

-- for the result of a step are held, worker by worker, the bags that it means
abbrev pub IsHeldStep : Placing → List File → CheckedTree → (Source → List Rows) → StepTree → Type 0
IsHeldStep p files c parts s =
    SameTables (meant p files c (source.Result s.statement)).parts (parts (source.Result s.statement))

-- the rows of the operands of a term that joins nothing have so many columns
abbrev pub HasWideParts : ℕ → (Source → List Rows) → TermTree → Type 0
HasWideParts width parts (Join shape sources) = ⊤
HasWideParts width parts (Group shape sources kinds) = ⊤
HasWideParts width parts t =
    All (λ o. All (All (λ (row : Row). length row ≡ width)) (parts o)) (sources_of t)

-- what is held for a step's sources is what they mean, in any order at each worker; it is placed, of the types and as wide as the
-- term asks, and ready to be joined
pub record IsReadyStep (p : Placing) (files : List File) (c : CheckedTree) (parts : Source → List Rows)
    (s : StepTree) : Type 0 where
  pub same : All (λ o. IsSamePlaced (meant p files c o) (held_at parts o)) (sources_of s.term)
  pub placed : All (λ o. IsPlaced p.workers (held_at parts o)) (sources_of s.term)
  pub ready : HasReadyItems p.workers (held_at parts) s.term
  pub typed : HasTypedSources s.schema (held_at parts) s.term
  pub wide : HasWideParts (length s.schema) parts s.term

-- a needed step is ready once those before it are held
abbrev pub StepsAreReady : Type 0
StepsAreReady =
    (p : Placing) (files : List File) (c : CheckedTree) → IsPlacing p → IsTrue (is_of files c)
    → AreTyped files
    → (parts : Source → List Rows) → AreDealt p files parts
    → (i : ℕ) (a : StepTree) → i < length (needed c)
    → All (IsHeldStep p files c parts) (take i (needed c))
    → IsReadyStep p files c parts (slice_index_or (needed c) i a)

-- the bags that the result of a step means, and the lines of the plan for it: its own, with the number of these rows, and those
-- below it, by what is held
pub record IsHeldResult (s : Settings) (rules : ℕ → ShuffleRule) (files : List File)
    (c : CheckedTree) (parts : Source → List Rows) (x : StepTree)
    (made : List Rows) : Type 0 where
  pub rows : SameTables (meant (placing_by s rules) files c (source.Result x.statement)).parts made
  pub lines : (local : JoinKind)
      → step_notes (placing_by s rules) local (meant (placing_by s rules) files c) x
      ≡ note.Statement x.statement (plan_kind x.term) (length (together made))
      ∷ term_notes (placing_by s rules) local x.statement (held_at parts) x.term

-- where the sources of a needed step are held, the bags of its term over what they mean are such a result
abbrev pub ResultsAreHeld : Type 0
ResultsAreHeld =
    (s : Settings) (rules : ℕ → ShuffleRule) (files : List File) (c : CheckedTree)
    → 1 ≤ s.workers → IsTrue (is_of files c) → AreTyped files
    → (parts : Source → List Rows) (i : ℕ) (a : StepTree) → i < length (needed c)
    → let x = slice_index_or (needed c) i a in
    let value = meant (placing_by s rules) files c in
    All (λ o. IsSamePlaced (value o) (held_at parts o)) (sources_of x.term)
    → (made : List Rows) → SameTables (term_parts (placing_by s rules) x.statement value x.term) made
    → IsHeldResult s rules files c parts x made

-- ---- what is held by number

-- what is held for a source, among the rows of files and of the results of statements
abbrev pub parts_in : List (List Rows) → List (ℕ × List Rows) → Source → List Rows
parts_in dealt results o = found [] dealt results o

-- a source is among them
abbrev pub IsIn : List (List Rows) → List (ℕ × List Rows) → Source → Type 0
IsIn dealt results (source.File place) = place < length dealt
IsIn dealt results (source.Result number) =
    IsSome (find (λ (r : ℕ × List Rows). r.0 == number) results)

-- the files are held, dealt to the workers, and so are the bags that these steps mean, each by its number
pub record AreHeld (p : Placing) (files : List File) (c : CheckedTree) (steps : List StepTree)
    (dealt : List (List Rows))
    (results : List (ℕ × List Rows)) : Type 0 where
  pub files_dealt : dealt ≡ map (λ (f : File). (placed_file p.workers f.1).parts) files
  pub numbers : map (λ (r : ℕ × List Rows). r.0) results ≡ numbers_of steps
  pub rows : All (IsHeldStep p files c (parts_in dealt results)) steps

-- where those before a needed step are held, its sources are there, and it is ready
abbrev pub HeldAreReady : Type 0
HeldAreReady =
    (p : Placing) (files : List File) (c : CheckedTree) → IsPlacing p → IsTrue (is_of files c)
    → AreTyped files
    → (dealt : List (List Rows)) (results : List (ℕ × List Rows)) (i : ℕ) (a : StepTree)
    → i < length (needed c)
    → AreHeld p files c (take i (needed c)) dealt results
    → let x = slice_index_or (needed c) i a in
    All (IsIn dealt results) (sources_of x.term) × IsReadyStep p files c (parts_in dealt results) x

-- with the bags that it means behind the results, it is held as well
abbrev pub OneMoreIsHeld : Type 0
OneMoreIsHeld =
    (p : Placing) (files : List File) (c : CheckedTree) → IsTrue (is_of files c)
    → (dealt : List (List Rows)) (results : List (ℕ × List Rows)) (i : ℕ) (a : StepTree)
    → i < length (needed c)
    → AreHeld p files c (take i (needed c)) dealt results
    → let x = slice_index_or (needed c) i a in
    (made : List Rows) → SameTables (meant p files c (source.Result x.statement)).parts made
    → AreHeld p files c (take (i + 1) (needed c)) dealt (results ++ (x.statement, made) ∷ [])

-- what is stored is there, as the bags that it means
pub record IsHeldStore (p : Placing) (files : List File) (c : CheckedTree) (dealt : List (List Rows))
    (results : List (ℕ × List Rows)) (t : StoreStep) : Type 0 where
  pub there : IsIn dealt results t.source
  pub rows : SameTables (meant p files c t.source).parts (parts_in dealt results t.source)

abbrev pub StoresAreHeld : Type 0
StoresAreHeld =
    (p : Placing) (files : List File) (c : CheckedTree) → IsTrue (is_of files c)
    → (dealt : List (List Rows)) (results : List (ℕ × List Rows))
    → AreHeld p files c (needed c) dealt results
    → All (IsHeldStore p files c dealt results) c.stores
