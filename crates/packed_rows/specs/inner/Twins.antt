-- Columns that tell others.
--
--   IsTold columns picks column pick    one of the columns, with its pick, is as good as this one
--   AreTold columns picks others emits  each of the others is told by one of the columns
use Rattle.std.specs.Prelude.{◌≡◌, ℕ, ◌<◌, List, length, slice_index_or}
use Rattle.myrial_ast.specs.declared.scalars.Scalar.{Scalar}
use Rattle.myrial_ast.specs.ScalarTrees.{scalar_tree_of}
use Rattle.packed_rows.specs.declared.columns.PackedColumn.{PackedColumn}
use Rattle.packed_rows.specs.Unpacked.{value_told}

-- the column at some place tells the same of each word, and its pick has the same tree
pub record IsTold (columns : List PackedColumn) (picks : List Scalar) (column : PackedColumn)
    (pick : Scalar) : Type 0 where
  pub place : ℕ
  pub there : place < length columns
  pub column_is : (word : ℕ) (d : PackedColumn)
      → value_told (slice_index_or columns place d) word ≡ value_told column word
  pub pick_is : (d : Scalar)
      → scalar_tree_of (slice_index_or picks place d) ≡ scalar_tree_of pick

-- there is a pick for each column, and one of the columns tells each of the others with its pick
pub record AreTold (columns : List PackedColumn) (picks : List Scalar)
    (others : List PackedColumn) (emits : List Scalar) : Type 0 where
  pub long : length picks ≡ length columns
  pub each : (k : ℕ) (d : PackedColumn) (e : Scalar) → k < length others
      → IsTold columns picks (slice_index_or others k d) (slice_index_or emits k e)
