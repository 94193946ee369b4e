-- The fields of a file.
--
--   int_of_field f                    the number that field f writes, if it is an int field
--   bool_of_field f                   the truth value that field f writes, if it is a boolean field
--   value_of_field nth column t f     the value of type t that field f writes, or its fault
--   column_of_field number f          the column that header field f names, or its fault
use Rattle.std.specs.Prelude.{ℕ, ℤ, pos, neg_ℤ, Bool, true, false, ◌&&◌, not, ◌==◌, if◌then◌else◌, Option, Some, None, option_map, Result, Ok, List, [], ◌∷◌, length, codes}
use Rattle.std.specs.List.{list_any, before_last, after_last}
use Rattle.std.specs.Option.{ok_or}
use Rattle.std.specs.Str.{all_ascii_digits, byte, str_eq_ignore_ascii_case}
use Rattle.std.specs.Str.Parse.{digits_value}
use Rattle.rel_base.specs.declared.values.Value.{Value}
use Rattle.rel_base.specs.declared.values.Value.TheVariants as variant
use Rattle.rel_base.specs.declared.values.ColType.{ColType}
use Rattle.rel_base.specs.declared.values.ColType.TheVariants as kind
use Rattle.rel_base.specs.declared.relations.Column.{Column}
use Rattle.rel_base.specs.Values.{in_64_bits}
use Rattle.relation_csv.specs.declared.faults.RelFault.{RelFault}
use Rattle.relation_csv.specs.declared.faults.RelFault.TheVariants as fault

-- whether there is a digit, and nothing but digits
abbrev pub is_numeral : List ℕ → Bool
is_numeral digits = not (length digits == 0) && all_ascii_digits digits

-- the number that a sign and these digits write, if they are digits and it lies in 64 bits
abbrev pub signed_number : (ℕ → ℤ) → List ℕ → Option ℤ
signed_number sign digits =
    let number = sign (digits_value 10 digits) in
    if is_numeral digits && in_64_bits number then Some number else None

-- the number of an int field: a plus, a minus or no sign, and then its digits
abbrev pub int_of_field : List ℕ → Option ℤ
int_of_field [] = None
int_of_field (first ∷ rest) =
    if first == byte "-" then signed_number (λ n. neg_ℤ (pos n)) rest
    else if first == byte "+" then signed_number pos rest
    else signed_number pos (first ∷ rest)

-- the truth value of a boolean field: `true` or `false`, in any case
abbrev pub bool_of_field : List ℕ → Option Bool
bool_of_field field =
    if str_eq_ignore_ascii_case field (codes "true") then Some true
    else if str_eq_ignore_ascii_case field (codes "false") then Some false
    else None

-- the value of this type that a field writes; the fault names its record and its column; every field writes a string
abbrev pub value_of_field : ℕ → ℕ → ColType → List ℕ → Result Value RelFault
value_of_field nth column kind.Int field =
    ok_or (option_map variant.Int (int_of_field field)) (fault.BadInt nth column)
value_of_field nth column kind.Str field = Ok (variant.Str field)
value_of_field nth column kind.Bool field =
    ok_or (option_map variant.Bool (bool_of_field field)) (fault.BadBool nth column)

-- whether a byte parts a column's name from its type
abbrev pub is_colon : ℕ → Bool
is_colon b = b == byte ":"

-- the type of this name, in any case
abbrev pub type_of_name : List ℕ → Option ColType
type_of_name name =
    if str_eq_ignore_ascii_case name (codes "int") then Some kind.Int
    else if str_eq_ignore_ascii_case name (codes "long") then Some kind.Int
    else if str_eq_ignore_ascii_case name (codes "string") then Some kind.Str
    else if str_eq_ignore_ascii_case name (codes "boolean") then Some kind.Bool
    else None

-- the column of this name
abbrev pub column_of : List ℕ → ColType → Column
column_of name t = record { name = name; kind = t }

-- the column of a header field: its name stands before the last colon, and the name of its type behind it; a field
-- without a colon names a column of strings
abbrev pub column_of_field : ℕ → List ℕ → Result Column RelFault
column_of_field number field =
    if list_any is_colon field
    then ok_or (option_map (column_of (before_last is_colon field))
    (type_of_name (after_last is_colon field)))
    (fault.BadHeader number)
    else Ok (column_of field kind.Str)
