-- Rows side by side.
--
--   values_of rows     the values of the rows, one row behind another
use Rattle.std.specs.Prelude.{List, map}
use Rattle.std.specs.Borrow.{Bor}
use Rattle.myrial_ast.specs.Combinations.{Row, combined_row}

-- the values of the rows, one row behind another
abbrev pub values_of : List (Bor Row) → Row
values_of rows = combined_row (map (λ (row : Bor Row). row.now) rows)
