-- Rows at workers that are held while a script runs.
--
--   parts_held held source          the rows at each worker that a source stands for
--   IsHeld held source              it is a file, or a result that is held
--   UsedAreHeld stores steps every some
--                                   what of all results a store or one of these steps uses is still held
--   value_held held source          what it stands for, where its rows lie
--   IsJoinable n shape parts        what running a join asks
--   IsRunnable ..                   what running a term over what is held asks
use Rattle.std.specs.Prelude.{◌≡◌, ⊤, ℕ, ◌==◌, IsTrue, List, map, find, length, All}
use Rattle.myrial_ast.specs.Combinations.{Rows}
use Rattle.algebra.specs.declared.terms.Source.{Source}
use Rattle.algebra.specs.declared.terms.StoreStep.{StoreStep}
use Rattle.algebra.specs.Trees.{Shape, TermTree, Join, Group, StepTree}
use Rattle.algebra.specs.Meanings.{sources_of, is_used}
use Rattle.algebra.specs.Rewriting.{AreTables}
use Rattle.placement.specs.Layouts.{PlacedRelation, rows_of}
use Rattle.placement.specs.Laws.{IsReady}
use Rattle.routed_joins.specs.PlacedJoins.{placed_items}
use Rattle.run_laws.specs.Held.{held_at, HasWideParts, parts_in, IsIn}
use Rattle.engine.specs.declared.held.Held.{Held}

-- the rows at each worker that a source stands for
abbrev pub parts_held : Held → Source → List Rows
parts_held held = parts_in held.files held.results.items

-- a file, or a result that is held
abbrev pub IsHeld : Held → Source → Type 0
IsHeld held = IsIn held.files held.results.items

-- each result that a store or one of these steps uses is found among some results as it is among all
abbrev pub UsedAreHeld : List StoreStep → List StepTree → List (ℕ × List Rows)
    → List (ℕ × List Rows) → Type 0
UsedAreHeld stores steps every some =
    (number : ℕ) → IsTrue (is_used number stores steps)
    → find (λ (r : ℕ × List Rows). r.0 == number) some
    ≡ find (λ (r : ℕ × List Rows). r.0 == number) every

-- what a source stands for, where its rows lie
abbrev pub value_held : Held → Source → PlacedRelation
value_held held = held_at (parts_held held)

-- the rows of a join's atoms are there for each worker, and of their types
pub record IsJoinable (n : ℕ) (shape : Shape) (parts : List (List Rows)) : Type 0 where
  pub ready : IsReady n shape (placed_items parts)
  pub typed : AreTables shape.atoms (rows_of (placed_items parts))

-- what the join of a term asks: its atoms' rows are there for each worker, and of their types; and a grouping has a kind for
-- each emitted column
abbrev pub HasJoinable : ℕ → Held → TermTree → Type 0
HasJoinable n held (Join shape sources) = IsJoinable n shape (map (parts_held held) sources)
HasJoinable n held (Group shape sources kinds) =
    IsJoinable n shape (map (parts_held held) sources) × (length kinds ≡ length shape.emits)
HasJoinable n held t = ⊤

-- the sources are held, with a list for each worker, and their rows are those that the term takes: of so many columns where
-- nothing is joined
pub record IsRunnable (n width : ℕ) (held : Held) (t : TermTree) : Type 0 where
  pub known : All (IsHeld held) (sources_of t)
  pub at_workers : All (λ o. length (parts_held held o) ≡ n) (sources_of t)
  pub wide : HasWideParts width (parts_held held) t
  pub joinable : HasJoinable n held t
