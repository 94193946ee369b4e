-- What is counted of an atom's columns, by their span.
--
--   bits_in span variables       the variables with a column in the span, as bits
--   tests_within span shape      how many tests read columns of the span and no others
--   ties_within span variables   how many columns of variables lie in it, but for the first of each
--   place_in widths column       the item of a column, from 0, and its place there
--   places_in widths variable    the columns of a variable, by items from 1 and places from 0
--   most_tests, most_ties        no more than these are counted
use Rattle.std.specs.Prelude.{ℕ, ◌+◌, ◌-◌, ◌*◌, ◌^◌, nat_lt, if◌then◌else◌, List, [], ◌∷◌, map, filter, length, sum_by}
use Rattle.std.specs.List.{enumerate_from, list_any}
use Rattle.rel_base.specs.Limits.{most_items, most_variables}
use Rattle.myrial_ast.specs.KeptRows.{Span, lies_in, reads_within}
use Rattle.algebra.specs.Trees.{Shape}
use Rattle.algebra.specs.Shapes.{tests_of}

-- the variables with a column in the span, as the bits of a number
abbrev pub bits_in : Span → List (List ℕ) → ℕ
bits_in span variables = sum_by
    (λ (e : ℕ × List ℕ). if list_any (lies_in span) e.1 then 2 ^ e.0 else 0)
    (enumerate_from 0 variables)

-- how many tests read columns of the span and no others
abbrev pub tests_within : Span → Shape → ℕ
tests_within span shape = length (filter (reads_within span) (tests_of shape))

-- how many columns of variables lie in the span, but for the first of each
abbrev pub ties_within : Span → List (List ℕ) → ℕ
ties_within span variables = sum_by (λ v. length (filter (lies_in span) v) - 1) variables

-- the item of a column, from 0, and its place there
abbrev pub place_in : List ℕ → ℕ → ℕ × ℕ
place_in [] c = (0, c)
place_in (width ∷ widths) c =
    if nat_lt c width then (0, c)
    else let rest = place_in widths (c - width) in (rest.0 + 1, rest.1)

-- the columns of a variable, by items from 1 and places from 0
abbrev pub places_in : List ℕ → List ℕ → List (ℕ × ℕ)
places_in widths variable =
    map (λ c. let place = place_in widths c in (place.0 + 1, place.1)) variable

-- no more than these are counted: there are at most eight atoms and eight variables, and fewer than
-- 2^32 tests or columns of each
abbrev pub most_tests : ℕ
most_tests = (most_items + 1) * 4294967295

abbrev pub most_ties : ℕ
most_ties = most_variables * 4294967295
