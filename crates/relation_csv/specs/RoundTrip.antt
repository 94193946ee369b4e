-- What is written of a relation is read back.
--
--   file_text r         the file of relation r: its header, and then its rows
--   FitsFile r          a file can hold relation r
use Rattle.std.specs.Prelude.{◌≡◌, ◌<◌, ◌≤◌, ℕ, Bool, true, All, IsTrue, List, [], ◌∷◌, ◌++◌, length, flat_map}
use Rattle.std.specs.List.{list_all}
use Rattle.std.specs.Str.{is_utf8}
use Rattle.csv.specs.Reading.{strip_bom}
use Rattle.rel_base.specs.declared.values.Value.{Value}
use Rattle.rel_base.specs.declared.values.Value.TheVariants as variant
use Rattle.rel_base.specs.declared.relations.Column.{Column}
use Rattle.rel_base.specs.Relations.{HasTypes, RelationState}
use Rattle.rel_base.specs.Limits.{most_columns, most_rows}
use Rattle.rel_base.specs.Values.{in_64_bits}
use Rattle.relation_csv.specs.RecordTexts.{header_record, row_record}

-- the record of the header, and then the records of the rows
abbrev pub file_text : RelationState → List ℕ
file_text relation = header_record relation.schema ++ flat_map row_record relation.rows

-- whether the name of a column is text
abbrev pub has_text_name : Column → Bool
has_text_name column = is_utf8 column.name

-- whether a program holds such a value: a number in 64 bits, text, or a truth value
abbrev pub is_held : Value → Bool
is_held (variant.Int n) = in_64_bits n
is_held (variant.Str s) = is_utf8 s
is_held (variant.Bool b) = true

-- the first name does not begin with a byte order mark, which a reader would take off
abbrev pub StartsUnmarked : List Column → Type 0
StartsUnmarked [] = Unit {0}
StartsUnmarked (first ∷ rest) = strip_bom first.name ≡ first.name

-- a relation that is within the limits of a file
pub record FitsFile (relation : RelationState) : Type 0 where
  pub some_column : 0 < length relation.schema
  pub few_columns : length relation.schema ≤ most_columns
  pub few_rows : length relation.rows ≤ most_rows
  pub text_names : IsTrue (list_all has_text_name relation.schema)
  pub typed : All (HasTypes relation.schema) relation.rows
  pub held : IsTrue (list_all (list_all is_held) relation.rows)
  pub unmarked : StartsUnmarked relation.schema
