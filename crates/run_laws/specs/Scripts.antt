-- What scripts store, plan and move, and what is wrong with them, by what their sources stand for.
--
--   IsOfSteps p files c             plan, exchanges and stores of a script, over what its sources stand for
--   ScriptsAreOfSteps               those of every script are such
--   FilesAreMeant                   a file stands for its rows, dealt to the workers
--   ResultsAreFound                 the result of a statement is that of the step that is found by its number
--   HasFirstFault rules ..          the fault of a script is the first one of a needed step, and else none
--   FaultsAreFirst                  those of every script are such
--   HasTypedSources schema v t      the rows of a term's sources have the types that it asks for
--   IsMeantStep p files c s         what a needed step comes to, and what its sources are like
--   NeededAreMeant                  each needed step is such
--   IsHeldOf n q parts              lists of rows that are those of a placed relation
--   HeldAreMeant                    lists with the same bags at each worker as what a source stands for are such
--   ReadyAreOfBags                  the order of rows changes nothing of what joins ask
--   NotesAreOfBags                  nor of the lines of a plan
use Rattle.std.specs.Prelude.{◌≡◌, ℕ, ◌<◌, ◌==◌, IsTrue, List, map, length, find, take, All, Some, None, slice_index_or}
use Rattle.std.specs.List.{flat_map}
use Rattle.rel_base.specs.declared.faults.RunFault.{RunFault}
use Rattle.rel_base.specs.declared.names.Key.{Key}
use Rattle.rel_base.specs.declared.relations.Column.{Column}
use Rattle.rel_base.specs.Bags.{SameBag}
use Rattle.rel_base.specs.Keys.{File}
use Rattle.rel_base.specs.Relations.{HasTypes}
use Rattle.myrial_ast.specs.Combinations.{Rows}
use Rattle.myrial_ast.specs.CandidateFaults.{FaultRule}
use Rattle.bag_laws.specs.Permuted.{SameTables}
use Rattle.algebra.specs.declared.settings.JoinKind.{JoinKind}
use Rattle.algebra.specs.declared.settings.Settings.{Settings}
use Rattle.algebra.specs.declared.terms.Source.{Source}
use Rattle.algebra.specs.declared.terms.Source.TheVariants as source
use Rattle.algebra.specs.declared.terms.StoreStep.{StoreStep}
use Rattle.algebra.specs.Trees.{TermTree, Join, Group, StepTree, CheckedTree}
use Rattle.algebra.specs.Conditions.{is_of}
use Rattle.algebra.specs.Meanings.{sources_of, stored_by, checked_fault}
use Rattle.algebra.specs.Rewriting.{AreTables, AreTyped}
use Rattle.placement.specs.Layouts.{PlacedRelation, Placing, rows_of, together, placed_file, placed_stores}
use Rattle.placement.specs.Exchanges.{PlacedExchange, term_exchanges, exchanges_of}
use Rattle.placement.specs.Plans.{ShuffleRule, placing_by, term_notes, step_notes, plan_of}
use Rattle.placement.specs.Laws.{IsPlaced, IsPlacing, IsSamePlaced, HasReadyItems}
use Rattle.run_laws.specs.Values.{meant, rows_meant, result_of, step_fault}
use Rattle.run_laws.specs.Rewritten.{needed}

-- ---- what a script stores, plans and moves

-- the exchanges of a step, each with its number, by what its sources stand for
abbrev pub step_exchanges : Placing → (Source → PlacedRelation) → StepTree
    → List (ℕ × PlacedExchange)
step_exchanges p value s = map (λ e. (s.statement, e)) (term_exchanges p s.statement value s.term)

-- a store with what its source stands for, and with the relation alone
abbrev pub placed_store : Placing → List File → CheckedTree → StoreStep → Key × PlacedRelation
placed_store p files c t = (t.key, meant p files c t.source)

abbrev pub stored_file : Placing → List File → CheckedTree → StoreStep → File
stored_file p files c t = (t.key, (meant p files c t.source).relation)

-- plan and exchanges are those of the needed steps, and a store is what its source stands for
pub record IsOfSteps (p : Placing) (files : List File) (c : CheckedTree) : Type 0 where
  pub plan : (local : JoinKind)
      → plan_of p local files c ≡ flat_map (step_notes p local (meant p files c)) (needed c)
  pub exchanges : exchanges_of p files c ≡ flat_map (step_exchanges p (meant p files c)) (needed c)
  pub placed : placed_stores p files c ≡ map (placed_store p files c) c.stores
  pub stored : stored_by files c ≡ map (stored_file p files c) c.stores

abbrev pub ScriptsAreOfSteps : Type 0
ScriptsAreOfSteps = (p : Placing) (files : List File) (c : CheckedTree) → IsOfSteps p files c

-- a file stands for its rows, dealt to the workers
abbrev pub FilesAreMeant : Type 0
FilesAreMeant =
    (p : Placing) (files : List File) (c : CheckedTree) (place : ℕ) (f : File)
    → place < length files
    → meant p files c (source.File place) ≡ placed_file p.workers (slice_index_or files place f).1

-- a statement's result is that of the step that is found by its number
abbrev pub ResultsAreFound : Type 0
ResultsAreFound =
    (p : Placing) (files : List File) (c : CheckedTree) → IsTrue (is_of files c)
    → (number : ℕ) (s : StepTree)
    → find (λ (t : StepTree). t.statement == number) c.steps ≡ Some s
    → meant p files c (source.Result number) ≡ result_of p (meant p files c) s

-- ---- what is wrong with a script

-- whether nothing is wrong with a step
abbrev pub IsSound : Placing → (ℕ → FaultRule) → List File → CheckedTree → StepTree → Type 0
IsSound p rules files c s = step_fault rules (rows_meant p files c) s ≡ None

-- the fault of a script is that of a needed step before which nothing is wrong, and where nothing is wrong there is none
pub record HasFirstFault (p : Placing) (rules : ℕ → FaultRule) (files : List File)
    (c : CheckedTree) : Type 0 where
  pub first : (i : ℕ) (a : StepTree) → i < length (needed c)
      → All (IsSound p rules files c) (take i (needed c))
      → (fault : RunFault)
      → step_fault rules (rows_meant p files c) (slice_index_or (needed c) i a) ≡ Some fault
      → checked_fault rules files c ≡ Some fault
  pub none : All (IsSound p rules files c) (needed c) → checked_fault rules files c ≡ None

abbrev pub FaultsAreFirst : Type 0
FaultsAreFirst =
    (p : Placing) (files : List File) (c : CheckedTree) → IsTrue (is_of files c)
    → (rules : ℕ → FaultRule)
    → HasFirstFault p rules files c

-- ---- what a step comes to

-- the rows have the types of these columns
abbrev pub AreRowsOf : List Column → (Source → PlacedRelation) → Source → Type 0
AreRowsOf schema value o = All (HasTypes schema) (value o).relation.rows

-- the items of a join have the types of its atoms, and the operands of any other term those of the result
abbrev pub HasTypedSources : List Column → (Source → PlacedRelation) → TermTree → Type 0
HasTypedSources schema value (Join shape sources) =
    AreTables shape.atoms (rows_of (map value sources))
HasTypedSources schema value (Group shape sources kinds) =
    AreTables shape.atoms (rows_of (map value sources))
HasTypedSources schema value t = All (AreRowsOf schema value) (sources_of t)

-- a step's result is its term over what its sources stand for; these are placed, of the types that the term asks for, and ready
-- to be joined
pub record IsMeantStep (p : Placing) (files : List File) (c : CheckedTree) (s : StepTree) : Type 0 where
  pub result : meant p files c (source.Result s.statement) ≡ result_of p (meant p files c) s
  pub placed : All (λ o. IsPlaced p.workers (meant p files c o)) (sources_of s.term)
  pub ready : HasReadyItems p.workers (meant p files c) s.term
  pub typed : HasTypedSources s.schema (meant p files c) s.term

abbrev pub NeededAreMeant : Type 0
NeededAreMeant =
    (p : Placing) (files : List File) (c : CheckedTree) → IsPlacing p → IsTrue (is_of files c)
    → AreTyped files
    → All (IsMeantStep p files c) (needed c)

-- ---- rows that are known as bags

-- a list for each worker, that together are these rows and as many, each of its columns' types
pub record IsHeldOf (n : ℕ) (q : PlacedRelation) (parts : List Rows) : Type 0 where
  pub each_worker : length parts ≡ n
  pub rows : SameBag q.relation.rows (together parts)
  pub count : length (together parts) ≡ length q.relation.rows
  pub typed : All (All (HasTypes q.relation.schema)) parts

-- lists with the same bags at each worker as what a source stands for
abbrev pub HeldAreMeant : Type 0
HeldAreMeant =
    (p : Placing) (files : List File) (c : CheckedTree) → IsPlacing p → IsTrue (is_of files c)
    → AreTyped files
    → (o : Source) (parts : List Rows) → SameTables (meant p files c o).parts parts
    → IsHeldOf p.workers (meant p files c o) parts

-- over other rows that are the same bags at each worker the sources of a term are as the term asks
abbrev pub ReadyAreOfBags : Type 0
ReadyAreOfBags =
    (n : ℕ) (schema : List Column) (v w : Source → PlacedRelation) (t : TermTree)
    → All (λ o. IsPlaced n (w o)) (sources_of t)
    → All (λ o. IsSamePlaced (v o) (w o)) (sources_of t)
    → HasReadyItems n v t → HasTypedSources schema v t
    → HasReadyItems n w t × HasTypedSources schema w t

-- over other rows that are the same bags at each worker the lines of a plan are the same
abbrev pub NotesAreOfBags : Type 0
NotesAreOfBags =
    (s : Settings) (rules : ℕ → ShuffleRule) (local : JoinKind) (number : ℕ)
    (v w : Source → PlacedRelation) (t : TermTree)
    → All (λ o. IsSamePlaced (v o) (w o)) (sources_of t)
    → term_notes (placing_by s rules) local number v t
    ≡ term_notes (placing_by s rules) local number w t
