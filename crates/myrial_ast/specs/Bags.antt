-- The operators on bags of rows.
--
--   same_row r s        whether two rows are one
--   has_row rows r      whether a row stands among the rows
--   union_all a b       the rows of both
--   distinct rows       each row once, where it stands first
--   difference a b      each row of the first that the second doesn't have, once
use Rattle.std.specs.Prelude.{Bool, not, [], ◌∷◌, ◌++◌, filter}
use Rattle.std.specs.Ordering.{is_eq}
use Rattle.std.specs.List.{list_any}
use Rattle.rel_base.specs.Values.{row_order}
use Rattle.myrial_ast.specs.Combinations.{Row, Rows}

-- whether two rows are one
abbrev pub same_row : Row → Row → Bool
same_row r s = is_eq (row_order r s)

-- whether the row stands among the rows
abbrev pub has_row : Rows → Row → Bool
has_row rows r = list_any (same_row r) rows

-- the rows of the one and then those of the other
abbrev pub union_all : Rows → Rows → Rows
union_all a b = a ++ b

-- each row where it stands first
abbrev pub distinct : Rows → Rows
distinct [] = []
distinct (r ∷ rows) = r ∷ filter (λ s. not (same_row r s)) (distinct rows)

-- each row of the first that the second doesn't have, once
abbrev pub difference : Rows → Rows → Rows
difference a b = filter (λ r. not (has_row b r)) (distinct a)
