-- Rows where they lie, and the cells that they may go to.
--
--   rows_at parts atom u            the rows of an atom that lie at worker u
--   GoesWithin workers cells        a row may go to these cells
--   IsRouted accepts goes workers parts    each row of the parts is one that the route knows the
--                                          cells of
use Rattle.std.specs.Prelude.{◌≡◌, ℕ, ◌<◌, ◌≤◌, List, [], length, All, slice_index_or}
use Rattle.rel_base.specs.declared.values.Value.{Value}
use Rattle.rel_base.specs.Limits.{most_workers, most_items}

-- a row, and rows
abbrev pub Row : Type 0
Row = List Value

abbrev pub Rows : Type 0
Rows = List Row

-- the rows of an atom that lie at worker u
abbrev pub rows_at : List (List Rows) → ℕ → ℕ → Rows
rows_at parts atom u = slice_index_or (slice_index_or parts atom []) u []

-- a row may go to these cells: they are workers, and no more than there may be workers
pub record GoesWithin (workers : ℕ) (cells : List ℕ) : Type 0 where
  pub inside : All (λ cell. cell < workers) cells
  pub few : length cells ≤ most_workers

-- the route knows the cells of each row, and the row may go there
pub record AreRouted (accepts : Row → Type 0) (goes : Row → List ℕ) (workers : ℕ)
    (rows : Rows) : Type 0 where
  pub accepted : All accepts rows
  pub inside : All (λ row. GoesWithin workers (goes row)) rows

-- there are 1 to 8 atoms, each with rows for each worker, and the route knows the cells of each row
pub record IsRouted (accepts : ℕ → Row → Type 0) (goes : ℕ → Row → List ℕ) (workers : ℕ)
    (parts : List (List Rows)) : Type 0 where
  pub some : 1 ≤ length parts
  pub few : length parts ≤ most_items
  pub each_worker : All (λ spread. length spread ≡ workers) parts
  pub known : (atom u : ℕ) → atom < length parts → u < workers
      → AreRouted (accepts atom) (goes atom) workers (rows_at parts atom u)
