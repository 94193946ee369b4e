-- The text of a header and of a row.
--
--   header_record s   the record of the columns s, as the csv crate writes it by default
--   row_record r      the record of row r, as the csv crate writes it by default
--   Extends old new   the new bytes begin with the old ones
use Rattle.std.specs.Prelude.{◌≡◌, ℕ, if◌then◌else◌, List, ◌++◌, length, map, take, codes}
use Rattle.std.specs.Fmt.{signed_decimal}
use Rattle.csv.specs.Writing.{default_writer, row_text}
use Rattle.rel_base.specs.declared.values.Value.{Value}
use Rattle.rel_base.specs.declared.values.Value.TheVariants as variant
use Rattle.rel_base.specs.declared.values.ColType.{ColType}
use Rattle.rel_base.specs.declared.values.ColType.TheVariants as kind
use Rattle.rel_base.specs.declared.relations.Column.{Column}

-- the name of a type
abbrev pub type_name : ColType → List ℕ
type_name kind.Int = codes "int"
type_name kind.Str = codes "string"
type_name kind.Bool = codes "boolean"

-- a column's field of a header: its name, a colon and the name of its type
abbrev pub header_field : Column → List ℕ
header_field column = column.name ++ codes ":" ++ type_name column.kind

-- a value's field of a row: a plain decimal, a string as it is, `true` or `false`
abbrev pub value_field : Value → List ℕ
value_field (variant.Int n) = signed_decimal n
value_field (variant.Str s) = s
value_field (variant.Bool b) = if b then codes "true" else codes "false"

-- the record of these columns, with its line feed
unfoldable pub header_record : List Column → List ℕ
header_record schema = row_text default_writer (map header_field schema)

-- the record of this row, with its line feed
unfoldable pub row_record : List Value → List ℕ
row_record row = row_text default_writer (map value_field row)

-- the new bytes begin with the old ones
abbrev pub Extends : List ℕ → List ℕ → Type 0
Extends old new = take (length old) new ≡ old
