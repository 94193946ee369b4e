-- Rows that go to all workers, and rows that stay.
--
--   to_all_but stays workers j row     a row of the atom that stays goes nowhere, any other to all
--   own_in spread stays given          what each worker was given, with its own rows of the atom
--                                      that stays
--   ArePartRows shape parts            a local join could be given any row of these parts
use Rattle.std.specs.Prelude.{ℕ, ◌==◌, ◌<◌, All, if◌then◌else◌, List, [], length, map, set, slice_index_or}
use Rattle.std.specs.List.{range_with_len}
use Rattle.myrial_ast.specs.Combinations.{Row, Rows}
use Rattle.algebra.specs.Trees.{Shape}
use Rattle.kept_rows.specs.KeptTests.{IsPartRow}

-- a row of the atom that stays goes nowhere, and a row of any other atom to all workers
abbrev pub to_all_but : ℕ → ℕ → ℕ → Row → List ℕ
to_all_but stays workers j row = if j == stays then [] else range_with_len 0 workers

-- what each worker was given, with its own rows of the atom that stays in their place
abbrev pub own_in : List Rows → ℕ → List (List Rows) → List (List Rows)
own_in spread stays given =
    map (λ w. set (slice_index_or given w []) stays (slice_index_or spread w []))
    (range_with_len 0 (length given))

-- a local join could be given any row of these parts
abbrev pub ArePartRows : Shape → List (List Rows) → Type 0
ArePartRows shape parts = (j : ℕ) → j < length parts
    → All (All (IsPartRow shape j)) (slice_index_or parts j [])
