-- Rows that stand in one list of values.
use Rattle.std.specs.Prelude.{ℕ, List, take, drop, map}

module _ {X : Type 0} where
  -- the row of so many values that begins at a place
  abbrev pub row_from : ℕ → List X → ℕ → List X
  row_from width values place = take width (drop place values)

  -- the rows of so many values that begin at these places
  abbrev pub rows_from : ℕ → List X → List ℕ → List (List X)
  rows_from width values places = map (row_from width values) places
