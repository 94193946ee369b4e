-- Runs of equal rows, and rows that come before a row.
use Rattle.std.specs.Prelude.{◌≡◌, ℕ, ◌+◌, ◌<◌, ◌≤◌, Bool, true, false, [], ◌∷◌, length, slice_index_or}
use Rattle.std.specs.Ordering.{is_lt}
use Rattle.rel_base.specs.Values.{row_order}
use Rattle.myrial_ast.specs.Combinations.{Row, Rows}
use Rattle.myrial_ast.specs.Bags.{same_row}

-- each row comes before the next
abbrev pub AreRising : Rows → Type 0
AreRising rows = (k : ℕ) → k + 1 < length rows
    → is_lt (row_order (slice_index_or rows k []) (slice_index_or rows (k + 1) [])) ≡ true

-- so many rows at the front are the first one, and the next, if there is one, is another
pub record IsRun (rows : Rows) (count : ℕ) : Type 0 where
  pub some : 0 < count
  pub within : count ≤ length rows
  pub same : (k : ℕ) → k < count → slice_index_or rows k [] ≡ slice_index_or rows 0 []
  pub next : count < length rows
      → same_row (slice_index_or rows 0 []) (slice_index_or rows count []) ≡ false

-- so many rows at the front come before this row, and the next, if there is one, doesn't
pub record IsBelow (rows : Rows) (row : Row) (count : ℕ) : Type 0 where
  pub within : count ≤ length rows
  pub below : (k : ℕ) → k < count → is_lt (row_order (slice_index_or rows k []) row) ≡ true
  pub next : count < length rows → is_lt (row_order (slice_index_or rows count []) row) ≡ false

-- whether the first of the rows is this one
abbrev pub begins : Rows → Row → Bool
begins [] row = false
begins (first ∷ rows) row = same_row row first
