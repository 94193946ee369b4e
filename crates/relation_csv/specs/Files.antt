-- The relation of a file.
--
--   records_of_bytes bytes           the records of a file, the header first
--   relation_of_bytes bytes          the relation of a file, or its fault
--   relation_with bytes schema n     the relation of a file without a header, behind its first n records, or its fault
--   IsReadAs answer given            what was read is what the definition gives, short of memory
use Rattle.std.specs.Prelude.{◌≡◌, ◌≢◌, Result, Ok, Err, ℕ, Bool, ◌==◌, not, nat_lt, if◌then◌else◌, List, [], ◌∷◌, length, drop}
use Rattle.std.specs.List.{list_all, zip}
use Rattle.std.specs.Str.{is_utf8}
use Rattle.csv.specs.Reading.{default_config, records, strip_bom}
use Rattle.rel_base.specs.declared.values.Value.{Value}
use Rattle.rel_base.specs.declared.relations.Column.{Column}
use Rattle.rel_base.specs.Limits.{most_columns, most_rows}
use Rattle.rel_base.specs.Relations.{RelationState}
use Rattle.relation_csv.specs.declared.faults.RelFault.{RelFault}
use Rattle.relation_csv.specs.declared.faults.RelFault.TheVariants as fault
use Rattle.relation_csv.specs.Fields.{column_of_field, value_of_field}
use Rattle.relation_csv.specs.Numbered.{each_numbered}

-- a record, as the csv crate sees it: its fields
abbrev pub Record : Type 0
Record = List (List ℕ)

-- every record of a file, as the csv crate reads them by default, the header being a record as the others are
abbrev pub records_of_bytes : List ℕ → List Record
records_of_bytes bytes = records default_config (strip_bom bytes)

-- whether every field is text
abbrev pub is_text : Record → Bool
is_text fields = list_all is_utf8 fields

-- the columns of a header: text, not too many fields, each of which names a column
abbrev pub schema_of_record : Record → Result (List Column) RelFault
schema_of_record header =
    if not (is_text header) then Err (fault.NotText 0)
    else if nat_lt most_columns (length header) then Err fault.TooManyColumns
    else each_numbered column_of_field 1 header

-- the value that a field writes under its column, in the record of this number
abbrev pub value_under : ℕ → ℕ → Column × List ℕ → Result Value RelFault
value_under nth column p = value_of_field nth column p.0.kind p.1

-- the row of record number nth behind the header: not too many before it, text, as many fields as there are columns,
-- each of which writes a value of its column's type; the first of these that fails is its fault
abbrev pub row_of_record : List Column → ℕ → Record → Result (List Value) RelFault
row_of_record schema nth fields =
    if nat_lt most_rows nth then Err fault.TooManyRows
    else if not (is_text fields) then Err (fault.NotText nth)
    else if not (length fields == length schema) then Err (fault.FieldCount nth)
    else each_numbered (value_under nth) 1 (zip schema fields)

-- the rows of these records, or the fault of the first that has one
abbrev pub rows_of_records : List Column → List Record → Result (List (List Value)) RelFault
rows_of_records schema records = each_numbered (row_of_record schema) 1 records

-- the relation of these columns and rows
abbrev pub relation_of_rows : List Column → Result (List (List Value)) RelFault
    → Result RelationState RelFault
relation_of_rows schema (Ok rows) = Ok (record { schema = schema; rows = rows })
relation_of_rows schema (Err why) = Err why

-- the relation of these columns, whose rows are those of the records
abbrev pub relation_under : List Record → Result (List Column) RelFault
    → Result RelationState RelFault
relation_under records (Ok schema) = relation_of_rows schema (rows_of_records schema records)
relation_under records (Err why) = Err why

-- the relation of a list of records: the first is the header, and the others are the rows
abbrev pub relation_of_records : List Record → Result RelationState RelFault
relation_of_records [] = Err fault.NoHeader
relation_of_records (header ∷ others) = relation_under others (schema_of_record header)

-- the relation of a file, or its fault
unfoldable pub relation_of_bytes : List ℕ → Result RelationState RelFault
relation_of_bytes bytes = relation_of_records (records_of_bytes bytes)

-- the relation of a file without a header, whose first records are passed over and not counted
unfoldable pub relation_with : List ℕ → List Column → ℕ → Result RelationState RelFault
relation_with bytes schema skip = relation_under (drop skip (records_of_bytes bytes)) (Ok schema)

-- what was read is what the definition gives, a value or a fault, short of memory
abbrev pub IsReadAs : {T : Type 0} → Result T RelFault → Result T RelFault → Type 0
IsReadAs read given = read ≢ Err fault.Memory → given ≡ read
