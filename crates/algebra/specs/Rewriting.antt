-- When steps do the same as others: what a rewriting leaves as it was.
--
--   IsSameJoin s t          over lists of its atoms' kinds the one shape has the candidates, kept rows and prefixes of the other
--   IsPushed s t            the same join, each atom's keeps being exactly the tests of its kept rows
--   IsSameStep s t          a step of the same kind, sources and emit kinds whose join is pushed
--   IsRewritten c d         the needed steps, each pushed
use Rattle.std.specs.Prelude.{◌≡◌, ⊤, ℕ, IsTrue, ◌<◌, List, [], ◌∷◌, map, filter, length, slice_index_or, All}
use Rattle.rel_base.specs.declared.values.ColType.{ColType}
use Rattle.myrial_ast.specs.Combinations.{Rows, all_hold}
use Rattle.myrial_ast.specs.CandidateFaults.{FaultRule}
use Rattle.rel_base.specs.Keys.{File}
use Rattle.rel_base.specs.Relations.{HasTypes}
use Rattle.algebra.specs.Trees.{AtomTree, Shape, TermTree, Join, Group, StepTree, CheckedTree}
use Rattle.algebra.specs.Shapes.{candidates_of, kept_of, prefix_of}
use Rattle.algebra.specs.ShapeConditions.{HasKinds}
use Rattle.algebra.specs.Conditions.{is_of}
use Rattle.algebra.specs.Meanings.{needed_steps, stored_by, checked_fault}

-- a list of rows for each atom, each of the atom's types
abbrev pub AreTables : List AtomTree → List Rows → Type 0
AreTables [] [] = ⊤
AreTables (a ∷ atoms) (rows ∷ tables) = HasKinds a.kinds rows × AreTables atoms tables
AreTables _ _ = ⊥

-- the types of each atom's columns
abbrev pub atom_kinds : Shape → List (List ColType)
atom_kinds shape = map (λ (a : AtomTree). a.kinds) shape.atoms

-- two shapes with the same candidates, kept rows and candidates of each prefix
pub record IsSameJoin (s t : Shape) : Type 0 where
  pub kinds : atom_kinds s ≡ atom_kinds t
  pub variables : s.variables ≡ t.variables
  pub arith : s.arith ≡ t.arith
  pub emits : s.emits ≡ t.emits
  pub candidates : (tables : List Rows) → AreTables s.atoms tables
      → candidates_of s tables ≡ candidates_of t tables
  pub kept : (j : ℕ) (tables : List Rows) → AreTables s.atoms tables
      → kept_of s j (slice_index_or tables j []) ≡ kept_of t j (slice_index_or tables j [])
  pub prefixes : (i : ℕ) (tables : List Rows) → AreTables s.atoms tables
      → prefix_of s i tables ≡ prefix_of t i tables

abbrev pub no_atom : AtomTree
no_atom = record { kinds = []; keeps = [] }

-- each atom's keeps hold of exactly its kept rows
abbrev pub KeepsAreKept : Shape → Type 0
KeepsAreKept t =
    (j : ℕ) (rows : Rows) → j < length t.atoms
    → HasKinds (slice_index_or t.atoms j no_atom).kinds rows
    → filter (all_hold (slice_index_or t.atoms j no_atom).keeps) rows ≡ kept_of t j rows

pub record IsPushed (s t : Shape) : Type 0 where
  pub same : IsSameJoin s t
  pub keeps : KeepsAreKept t

-- the same term, but for what is pushed into a join's keeps
abbrev pub IsSameTerm : TermTree → TermTree → Type 0
IsSameTerm (Join s sources) (Join t others) = IsPushed s t × (sources ≡ others)
IsSameTerm (Group s sources kinds) (Group t others own) =
    IsPushed s t × (sources ≡ others) × (kinds ≡ own)
IsSameTerm s t = s ≡ t

pub record IsSameStep (s t : StepTree) : Type 0 where
  pub statement : s.statement ≡ t.statement
  pub schema : s.schema ≡ t.schema
  pub term : IsSameTerm s.term t.term

pub data AreSameSteps : List StepTree → List StepTree → Type 0 where
  no_step : AreSameSteps [] []
  a_step : (s t : StepTree) (steps others : List StepTree) → IsSameStep s t
      → AreSameSteps steps others → AreSameSteps (s ∷ steps) (t ∷ others)

-- exactly the needed steps, each the same but for what is pushed, and all stores
pub record IsRewritten (c d : CheckedTree) : Type 0 where
  pub steps : AreSameSteps (needed_steps c.stores c.steps) d.steps
  pub stores : c.stores ≡ d.stores

-- ---- what follows from it

-- each row of each file has its columns' types
abbrev pub AreTyped : List File → Type 0
AreTyped files = All (λ (f : File). All (HasTypes f.1.schema) f.1.rows) files

-- a rewritten script stores what the script stores, and has its fault
abbrev pub RewrittenStoresTheSame : Type 0
RewrittenStoresTheSame =
    (files : List File) (c d : CheckedTree) → IsTrue (is_of files c) → AreTyped files
    → IsRewritten c d
    → (stored_by files d ≡ stored_by files c)
    × ((rules : ℕ → FaultRule) → checked_fault rules files d ≡ checked_fault rules files c)
