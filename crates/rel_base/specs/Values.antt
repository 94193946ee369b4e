-- The order of values and of rows.
--
--   value_order a b    how two values compare
--   row_order r s      how two rows compare: column by column, and then by their lengths
--   rows_order rs ss   how two lists of rows compare: row by row, and then by their lengths
--   in_64_bits n       whether a number is one that an int can hold
use Rattle.std.specs.Prelude.{ℕ, ◌^◌, ℤ, pos, negsuc, Bool, false, nat_lt, List, []}
use Rattle.std.specs.declared.cmp.Ordering.{Ordering}
use Rattle.std.specs.Ordering.{nat_cmp, int_cmp, bool_cmp, on, then_cmp}
use Rattle.std.specs.Cmp.Lexicographic.{slice_cmp}
use Rattle.rel_base.specs.declared.values.Value.{Value}
use Rattle.rel_base.specs.declared.values.Value.TheVariants as variant

-- an int comes before a string, and a string before a boolean
abbrev pub type_rank : Value → ℕ
type_rank (variant.Int n) = 0
type_rank (variant.Str s) = 1
type_rank (variant.Bool b) = 2

-- the number of an int; of another value 0
abbrev pub number_of : Value → ℤ
number_of (variant.Int n) = n
number_of (variant.Str s) = pos 0
number_of (variant.Bool b) = pos 0

-- the bytes of a string; of another value none
abbrev pub bytes_of : Value → List ℕ
bytes_of (variant.Int n) = []
bytes_of (variant.Str s) = s
bytes_of (variant.Bool b) = []

-- the truth of a boolean; of another value false
abbrev pub truth_of : Value → Bool
truth_of (variant.Int n) = false
truth_of (variant.Str s) = false
truth_of (variant.Bool b) = b

-- values compare by their types, and within a type by number, by bytes, and false before true
abbrev pub value_order : Value → Value → Ordering
value_order =
    then_cmp (on type_rank nat_cmp)
    (then_cmp (on number_of int_cmp) (then_cmp (on bytes_of (slice_cmp nat_cmp)) (on truth_of bool_cmp)))

-- rows compare column by column; a row comes before each longer row that begins with it
abbrev pub row_order : List Value → List Value → Ordering
row_order = slice_cmp value_order

-- lists of rows compare row by row; a list comes before each longer list that begins with it
abbrev pub rows_order : List (List Value) → List (List Value) → Ordering
rows_order = slice_cmp row_order

-- whether a number lies in 64 bits, signed
abbrev pub in_64_bits : ℤ → Bool
in_64_bits (pos n) = nat_lt n (2 ^ 63)
in_64_bits (negsuc n) = nat_lt n (2 ^ 63)
