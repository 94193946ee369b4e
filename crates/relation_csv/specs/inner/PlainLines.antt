-- Records that are lines, and fields that lie between commas.
--
--   IsLine text                              a record that begins with a field begins with the text, if the text has a byte
--   BeginsWithField text field more rest     a text begins with this field, where a field may begin
--   BeginsWithValue n c t text v more rest   a text begins with a field that writes this value
--   BeginsWithInt text number more rest      a text begins with a field that writes this number
--   BeginsWithRow schema n text row rest     a text begins with a record, number n, that writes this row
--   AddsRow schema text rows more rest       a text begins with the record behind these rows, and its row is added to them
use Rattle.std.specs.Prelude.{◌≡◌, ℕ, ℤ, ◌<◌, Bool, true, false, Option, Some, Ok, List, [], ◌∷◌, ◌++◌, ◌+◌, length}
use Rattle.std.specs.Str.{IsUtf8}
use Rattle.csv.specs.Machine.{Read, next_record}
use Rattle.csv.specs.Reading.{default_config}
use Rattle.csv.specs.declared.parser.State.TheVariants as state
use Rattle.rel_base.specs.declared.values.Value.{Value}
use Rattle.rel_base.specs.declared.values.ColType.{ColType}
use Rattle.rel_base.specs.declared.relations.Column.{Column}
use Rattle.relation_csv.specs.Fields.{int_of_field, value_of_field}
use Rattle.relation_csv.specs.Files.{Record, row_of_record}

-- the record of a text that begins with a field, behind fields that were read before
abbrev pub record_from : Record → List ℕ → Option Read
record_from fields text = next_record default_config state.StartField fields [] text

-- the first record of a text that has a byte begins with a field
abbrev pub IsLine : List ℕ → Type 0
IsLine text = 0 < length text
    → next_record default_config state.StartRecord [] [] text ≡ record_from [] text

-- the record of which these fields were read: its other fields follow, or it ends
abbrev pub record_on : Record → Bool → List ℕ → Option Read
record_on fields true rest = record_from fields rest
record_on fields false rest = Some (fields, state.StartRecord, rest)

-- whatever was read before, the text begins with this field, and the record goes on or ends
abbrev pub BeginsWithField : List ℕ → List ℕ → Bool → List ℕ → Type 0
BeginsWithField text field more rest =
    (before : Record) → record_from before text ≡ record_on (before ++ field ∷ []) more rest

-- the text begins with a field of text, in this record and column, that writes this value
abbrev pub BeginsWithValue : ℕ → ℕ → ColType → List ℕ → Value → Bool → List ℕ → Type 0
BeginsWithValue nth column kind text value more rest =
    (field : List ℕ) × IsUtf8 field × BeginsWithField text field more rest
    × (value_of_field nth column kind field ≡ Ok value)

-- the text begins with a field of text that writes this number
abbrev pub BeginsWithInt : List ℕ → ℤ → Bool → List ℕ → Type 0
BeginsWithInt text number more rest =
    (field : List ℕ) × IsUtf8 field × BeginsWithField text field more rest
    × (int_of_field field ≡ Some number)

-- the text begins with the fields of a record, which writes this row
abbrev pub BeginsWithRow : List Column → ℕ → List ℕ → List Value → List ℕ → Type 0
BeginsWithRow schema nth text row rest =
    (fields : Record) × (record_from [] text ≡ record_on fields false rest)
    × (row_of_record schema nth fields ≡ Ok row)

-- the text begins with the fields of the record behind those of these rows, and its row is added at their end
abbrev pub AddsRow : List Column → List ℕ → List (List Value) → List (List Value) → List ℕ → Type 0
AddsRow schema text rows more rest =
    (row : List Value) × (more ≡ rows ++ row ∷ [])
    × BeginsWithRow schema (length rows + 1) text row rest
