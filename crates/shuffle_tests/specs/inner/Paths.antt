-- A path of three items: numbers, pairs of which the first are those numbers, and numbers that are
-- the second ones of pairs.
--
--   pair_kinds             the types of a pair
--   pair_atom              an item of two columns of numbers
--   IsPath shape           the path
--   ArePairs workers spread     lists of pairs, one for each worker
--   ArePathParts parts     lists of the path's rows at two workers
use Rattle.std.specs.Prelude.{◌≡◌, ℕ, List, [], ◌∷◌, length, All, slice_index_or}
use Rattle.rel_base.specs.declared.values.ColType.{ColType}
use Rattle.rel_base.specs.declared.values.ColType.TheVariants as kind
use Rattle.myrial_ast.specs.Combinations.{Rows}
use Rattle.algebra.specs.Trees.{AtomTree, Shape}
use Rattle.algebra.specs.ShapeConditions.{HasKinds}
use Rattle.shuffle_tests.specs.inner.Numbers.{number_atom, AreNumbers}

-- the types of a pair
abbrev pub pair_kinds : List ColType
pair_kinds = kind.Int ∷ kind.Int ∷ []

-- an item of two columns of numbers
abbrev pub pair_atom : AtomTree
pair_atom = record { kinds = pair_kinds; keeps = [] }

-- the path
pub record IsPath (shape : Shape) : Type 0 where
  pub atoms : shape.atoms ≡ number_atom ∷ pair_atom ∷ number_atom ∷ []
  pub variables : shape.variables ≡ (0 ∷ 1 ∷ []) ∷ (2 ∷ 3 ∷ []) ∷ []

-- lists of pairs, one for each worker
abbrev pub ArePairs : ℕ → List Rows → Type 0
ArePairs workers spread = (length spread ≡ workers) × All (HasKinds pair_kinds) spread

-- lists of the path's rows at two workers
pub record ArePathParts (parts : List (List Rows)) : Type 0 where
  pub three : length parts ≡ 3
  pub first : AreNumbers 2 (slice_index_or parts 0 [])
  pub second : ArePairs 2 (slice_index_or parts 1 [])
  pub third : AreNumbers 2 (slice_index_or parts 2 [])
