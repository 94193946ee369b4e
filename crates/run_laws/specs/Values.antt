-- Scripts step by step: what each source stands for is fixed, and each needed step is understood by it alone.
--
--   meant p files checked           what each source of a checked script stands for, with its parts
--   rows_meant p files checked      its rows
--   StepsAreMeant                   a step's result is its term over what its sources stand for
--   FaultsAreOfSteps                the fault of a script is the first one of its needed steps
--   NeededAreOverNeeded             the sources of a needed step are files and needed steps before it
--   StoresAreOverNeeded             so are those of stores
--   MeantArePlaced                  what sources stand for is placed, and of their columns' types
use Rattle.std.specs.Prelude.{◌≡◌, ℕ, ◌<◌, ◌++◌, IsTrue, List, [], ◌∷◌, map, length, All, Contains, Option, Some, None}
use Rattle.rel_base.specs.declared.faults.RunFault.{RunFault}
use Rattle.rel_base.specs.Keys.{File}
use Rattle.rel_base.specs.Relations.{HasTypes}
use Rattle.myrial_ast.specs.Combinations.{Rows}
use Rattle.myrial_ast.specs.CandidateFaults.{FaultRule}
use Rattle.algebra.specs.declared.terms.Source.{Source}
use Rattle.algebra.specs.declared.terms.Source.TheVariants as source
use Rattle.algebra.specs.declared.terms.StoreStep.{StoreStep}
use Rattle.algebra.specs.Trees.{StepTree, CheckedTree}
use Rattle.algebra.specs.Conditions.{is_of}
use Rattle.algebra.specs.Meanings.{sources_of, needed_steps, term_rows, term_fault, checked_fault}
use Rattle.algebra.specs.Rewriting.{AreTyped}
use Rattle.placement.specs.Layouts.{PlacedRelation, Placing, term_parts, placed_source, placed_steps}
use Rattle.placement.specs.Laws.{IsPlaced, IsPlacing}

-- what each source of a checked script stands for
abbrev pub meant : Placing → List File → CheckedTree → Source → PlacedRelation
meant p files c = placed_source p files (placed_steps p files c.steps)

-- its rows
abbrev pub rows_meant : Placing → List File → CheckedTree → Source → Rows
rows_meant p files c o = (meant p files c o).relation.rows

-- the result of a step, by what its sources stand for
abbrev pub result_of : Placing → (Source → PlacedRelation) → StepTree → PlacedRelation
result_of p value s = record {
  relation = record { schema = s.schema; rows = term_rows (λ o. (value o).relation.rows) s.term };
  parts = term_parts p s.statement value s.term;
}

-- each step's result is its term over what its sources stand for, whatever steps come later
abbrev pub StepsAreMeant : Type 0
StepsAreMeant =
    (p : Placing) (files : List File) (c : CheckedTree) → IsTrue (is_of files c)
    → All (λ (s : StepTree). meant p files c (source.Result s.statement)
    ≡ result_of p (meant p files c) s) c.steps

-- the first of some faults
abbrev pub first_of : List (Option RunFault) → Option RunFault
first_of [] = None
first_of (Some fault ∷ rest) = Some fault
first_of (None ∷ rest) = first_of rest

-- the fault of a step, by what its sources stand for
abbrev pub step_fault : (ℕ → FaultRule) → (Source → Rows) → StepTree → Option RunFault
step_fault rules rows s = term_fault (rules s.statement) s.statement rows s.term

-- the fault of a script is the first one of its needed steps
abbrev pub FaultsAreOfSteps : Type 0
FaultsAreOfSteps =
    (p : Placing) (files : List File) (c : CheckedTree) → IsTrue (is_of files c)
    → (rules : ℕ → FaultRule)
    → checked_fault rules files c
    ≡ first_of (map (step_fault rules (rows_meant p files c)) (needed_steps c.stores c.steps))

-- a file at its place, or the result of one of these steps
abbrev pub IsKnown : List File → List StepTree → Source → Type 0
IsKnown files steps (source.File place) = place < length files
IsKnown files steps (source.Result number) =
    Contains (map (λ (s : StepTree). s.statement) steps) number

-- the sources of a needed step are files and needed steps before it
abbrev pub NeededAreOverNeeded : Type 0
NeededAreOverNeeded =
    (files : List File) (c : CheckedTree) → IsTrue (is_of files c)
    → (earlier : List StepTree) (s : StepTree) (later : List StepTree)
    → needed_steps c.stores c.steps ≡ earlier ++ s ∷ later
    → All (IsKnown files earlier) (sources_of s.term)

-- what is stored is a file or the result of a needed step
abbrev pub StoresAreOverNeeded : Type 0
StoresAreOverNeeded =
    (files : List File) (c : CheckedTree) → IsTrue (is_of files c)
    → All (λ (t : StoreStep). IsKnown files (needed_steps c.stores c.steps) t.source) c.stores

-- the rows have the types of their columns, and there is a list for each worker that together are these rows
pub record IsMeant (n : ℕ) (p : PlacedRelation) : Type 0 where
  pub placed : IsPlaced n p
  pub typed : All (HasTypes p.relation.schema) p.relation.rows

-- whatever is known stands for rows of its columns' types, with a list for each worker
abbrev pub MeantArePlaced : Type 0
MeantArePlaced =
    (p : Placing) (files : List File) (c : CheckedTree) → IsPlacing p → IsTrue (is_of files c)
    → AreTyped files
    → (o : Source) → IsKnown files c.steps o → IsMeant p.workers (meant p files c o)
