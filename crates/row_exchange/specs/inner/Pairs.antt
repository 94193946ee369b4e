-- The pairs of a row and a cell that it goes to, as they are filled and counted: sums over workers
-- and atoms, which the moves are.
--
--   times_to w cells row            the row, once for each time that w stands among the cells
--   rows_to goes w rows             the rows that go to w, in order
--   pairs_of goes rows              how many pairs of a row and one of its cells there are
use Rattle.std.specs.Prelude.{ℕ, ◌==◌, List, length, map, filter, sum_by}
use Rattle.std.specs.List.{flat_map, range_with_len}
use Rattle.row_exchange.specs.Routes.{Row, Rows, rows_at}

-- the row, once for each time that w stands among the cells
abbrev pub times_to : ℕ → List ℕ → Row → Rows
times_to w cells row = map (λ _. row) (filter (λ cell. cell == w) cells)

-- the rows that go to w, in order, each once for each time that w stands among its cells
abbrev pub rows_to : (Row → List ℕ) → ℕ → Rows → Rows
rows_to goes w rows = flat_map (λ row. times_to w (goes row) row) rows

-- how many pairs of a row and one of its cells there are
abbrev pub pairs_of : (Row → List ℕ) → Rows → ℕ
pairs_of goes rows = sum_by (λ row. length (goes row)) rows

-- the pairs of the rows of all atoms that lie at worker u
abbrev pub pairs_from : (ℕ → Row → List ℕ) → List (List Rows) → ℕ → ℕ
pairs_from goes parts u = sum_by (λ atom. pairs_of (goes atom) (rows_at parts atom u))
    (range_with_len 0 (length parts))

-- the rows of an atom that go to w, of all workers, one worker's rows after another's
abbrev pub all_rows_to : (ℕ → Row → List ℕ) → List (List Rows) → ℕ → ℕ → ℕ → Rows
all_rows_to goes parts workers atom w = flat_map
    (λ u. rows_to (goes atom) w (rows_at parts atom u)) (range_with_len 0 workers)

-- the pairs of a row, of any atom and worker, and w
abbrev pub pairs_to : (ℕ → Row → List ℕ) → List (List Rows) → ℕ → ℕ → ℕ
pairs_to goes parts workers w =
    sum_by (λ u. sum_by (λ atom. length (rows_to (goes atom) w (rows_at parts atom u)))
    (range_with_len 0 (length parts))) (range_with_len 0 workers)
