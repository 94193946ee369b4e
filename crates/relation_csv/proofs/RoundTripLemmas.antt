-- What is written of a relation is read back.
use Rattle.std.proofs.Common.{◌≡◌, ◌∙◌, ℕ, suc, ◌+◌, ◌^◌, ◌<◌, ◌≤◌, Bool, true, false, ℤ, pos, negsuc, neg_ℤ, codes, Some, Ok, List, [], ◌∷◌, ◌++◌, length, map, zip, refl, ap, append_assoc, arith}
use Rattle.std.specs.Prelude.{All, flat_map, if◌then◌else◌}
use Rattle.std.specs.Fmt.{decimal, signed_decimal}
use Rattle.std.specs.List.{list_all, list_any}
use Rattle.std.specs.Str.{all_ascii_digits, is_utf8}
use Rattle.std.proofs.lemmas.Bool.{and_parts, ltb-true, ne_eqb}
use Rattle.std.proofs.lemmas.Fmt.{IsAscii-decimal, decimal_nonempty, digits_decimal, digits_value-decimal}
use Rattle.std.proofs.lemmas.List.{length-map}
use Rattle.std.proofs.lemmas.Str.{IsUtf8-append, IsUtf8-from_ascii, IsUtf8-from_is_utf8, is_utf8-from_IsUtf8}
use Rattle.std.proofs.lemmas.Str.Ascii.{IsAscii-cons}
use Rattle.std.proofs.lemmas.Str.Parse.{tells_all_ascii_digits}
use Rattle.csv.specs.Machine.{next_record}
use Rattle.csv.specs.Reading.{strip_bom}
use Rattle.csv.specs.Writing.{default_writer, field_text, fields_text, is_blank, read_back, row_text}
use Rattle.csv.specs.declared.parser.State.TheVariants as st
use Rattle.csv.proofs.RoundTrip.{read-write}
use Rattle.rel_base.specs.declared.values.Value.{Value}
use Rattle.rel_base.specs.declared.values.Value.TheVariants as variant
use Rattle.rel_base.specs.declared.values.ColType.{ColType}
use Rattle.rel_base.specs.declared.values.ColType.TheVariants as kind
use Rattle.rel_base.specs.declared.relations.Column.{Column}
use Rattle.rel_base.specs.Relations.{HasTypes, RelationState, fits_schema, same_type, type_of}
use Rattle.rel_base.specs.Limits.{most_rows}
use Rattle.relation_csv.specs.Fields.{bool_of_field, column_of_field, int_of_field, is_colon, signed_number, type_of_name, value_of_field}
use Rattle.rel_base.specs.Values.{in_64_bits}
use Rattle.relation_csv.specs.Numbered.{each_numbered}
use Rattle.relation_csv.specs.Files.{Record, is_text, records_of_bytes, relation_of_bytes, row_of_record, value_under}
use Rattle.relation_csv.specs.inner.RecordsLeft.{records_after}
use Rattle.relation_csv.specs.RecordTexts.{header_field, header_record, row_record, type_name, value_field}
use Rattle.relation_csv.specs.RoundTrip.{FitsFile, file_text, has_text_name, is_held}
use Rattle.relation_csv.proofs.ColumnLemmas.{SplitsAtLastColon-written, column_of_field-Ok}
use Rattle.relation_csv.proofs.DecimalLemmas.{numerals}
use Rattle.relation_csv.proofs.MarkLemmas.{strip_bom-field}
use Rattle.relation_csv.proofs.OnLiterals.{files_on_literals}
use Rattle.relation_csv.proofs.RelationLemmas.{relation_of_bytes-rows, relation_of_rows-Ok}
use Rattle.relation_csv.proofs.RowLemmas.{row_of_record-values}
use Rattle.relation_csv.proofs.SchemaLemmas.{schema_of_record-columns}
use Rattle.relation_csv.proofs.RecordsLeftLemmas.{records_after-Some, records_after-None}

-- ---- ints

-- digits behind a sign are a number, where it fits
signed_number-decimal : (sign : ℕ → ℤ) (n : ℕ) → n < 2 ^ 64 → in_64_bits (sign n) ≡ true
    → signed_number sign (decimal n) ≡ Some (sign n)
signed_number-decimal sign n small fits =
    let value = digits_value-decimal numerals n small in
    let size = decimal_nonempty n small in
    rw (value, ne_eqb (length (decimal n)) 0 (λ e. omega arith), digits_decimal numerals n small, fits) refl

-- a digit is no sign
int_of_field-digits : (digits : List ℕ) → 0 < length digits → all_ascii_digits digits ≡ true
    → int_of_field digits ≡ signed_number pos digits
int_of_field-digits [] some all = absurd (omega arith)
int_of_field-digits (d ∷ ds) some all =
    let digit = (tells_all_ascii_digits.parts d ds all).0 in
    rw (ne_eqb d 45 (λ e. omega arith), ne_eqb d 43 (λ e. omega arith)) refl

-- an int is read back
int_of_field-signed_decimal : (z : ℤ) → in_64_bits z ≡ true → int_of_field (signed_decimal z) ≡ Some z
int_of_field-signed_decimal (pos n) fits =
    let low = ltb-true n (2 ^ 63) fits in
    int_of_field-digits (decimal n) (decimal_nonempty n (omega arith)) (digits_decimal numerals n (omega arith))
    ∙ signed_number-decimal pos n (omega arith) fits
int_of_field-signed_decimal (negsuc n) fits =
    let low = ltb-true n (2 ^ 63) fits in
    signed_number-decimal (λ m. neg_ℤ (pos m)) (suc n) (omega arith) fits

-- its text is text
is_utf8-signed_decimal : (z : ℤ) → in_64_bits z ≡ true → is_utf8 (signed_decimal z) ≡ true
is_utf8-signed_decimal (pos n) fits =
    let low = ltb-true n (2 ^ 63) fits in
    is_utf8-from_IsUtf8 (decimal n) (IsUtf8-from_ascii (decimal n) (IsAscii-decimal n (omega arith)))
is_utf8-signed_decimal (negsuc n) fits =
    let low = ltb-true n (2 ^ 63) fits in
    is_utf8-from_IsUtf8 (45 ∷ decimal (suc n))
    (IsUtf8-from_ascii (45 ∷ decimal (suc n))
    (IsAscii-cons 45 (decimal (suc n)) (omega arith) (IsAscii-decimal (suc n) (omega arith))))

-- ---- the header

colon_is_text : is_utf8 (codes ":") ≡ true
unfolding files_on_literals
colon_is_text = refl

type_is_text : (k : ColType) → is_utf8 (type_name k) ≡ true
unfolding files_on_literals
type_is_text kind.Int = refl
type_is_text kind.Str = refl
type_is_text kind.Bool = refl

truth_is_text : (b : Bool) → is_utf8 (if b then codes "true" else codes "false") ≡ true
unfolding files_on_literals
truth_is_text true = refl
truth_is_text false = refl

is_utf8-append : (xs ys : List ℕ) → is_utf8 xs ≡ true → is_utf8 ys ≡ true → is_utf8 (xs ++ ys) ≡ true
is_utf8-append xs ys a b = is_utf8-from_IsUtf8 (xs ++ ys)
    (IsUtf8-append xs ys (IsUtf8-from_is_utf8 xs a) (IsUtf8-from_is_utf8 ys b))

-- the name of a type has no colon, and names that type
type_name_is_clear : (k : ColType) → list_any is_colon (type_name k) ≡ false
type_name_is_clear kind.Int = refl
type_name_is_clear kind.Str = refl
type_name_is_clear kind.Bool = refl

type_of_name-type_name : (k : ColType) → Some k ≡ type_of_name (type_name k)
unfolding files_on_literals
type_of_name-type_name kind.Int = refl
type_of_name-type_name kind.Str = refl
type_of_name-type_name kind.Bool = refl

-- a column's field is read as that column, and is text
column_written : (number : ℕ) (c : Column) → is_utf8 c.name ≡ true
    → (column_of_field number (header_field c) ≡ Ok c) × (is_utf8 (header_field c) ≡ true)
column_written number c text =
    let name = c.name in
    let k = c.kind in
    let whole : (name ++ codes ":") ++ type_name k ≡ name ++ 58 ∷ type_name k = append_assoc name (codes ":") (type_name k) in (
      ap (column_of_field number) whole ∙ column_of_field-Ok number (name ++ 58 ∷ type_name k) name (type_name k) k
          (SplitsAtLastColon-written name (type_name k) (type_name_is_clear k)) (type_of_name-type_name k),
      is_utf8-append (name ++ codes ":") (type_name k) (is_utf8-append name (codes ":") text colon_is_text) (type_is_text k),
    )

header_written : (n : ℕ) (schema : List Column) → list_all has_text_name schema ≡ true
    → (each_numbered column_of_field n (map header_field schema) ≡ Ok schema) × (is_text (map header_field schema) ≡ true)
header_written n [] all = (refl, refl)
header_written n (c ∷ cs) all =
    let (text, others) = and_parts (is_utf8 c.name) (list_all has_text_name cs) all in
    let (column, utf8) = column_written n c text in
    let (columns, texts) = header_written (n + 1) cs others in
    (rw (column, columns) refl, rw (utf8, texts) refl)

-- ---- the rows

bool_of_field-written : (b : Bool) → bool_of_field (if b then codes "true" else codes "false") ≡ Some b
unfolding files_on_literals
bool_of_field-written true = refl
bool_of_field-written false = refl

-- the field of a value is read as that value under a column of its type, and is text
value_written : (nth column : ℕ) (k : ColType) (v : Value) → same_type k (type_of v) ≡ true → is_held v ≡ true
    → (value_of_field nth column k (value_field v) ≡ Ok v) × (is_utf8 (value_field v) ≡ true)
value_written nth column kind.Int (variant.Int n) same held =
    (rw (int_of_field-signed_decimal n held) refl, is_utf8-signed_decimal n held)
value_written nth column kind.Int (variant.Str s) same held = cc
value_written nth column kind.Int (variant.Bool b) same held = cc
value_written nth column kind.Str (variant.Int n) same held = cc
value_written nth column kind.Str (variant.Str s) same held = (refl, held)
value_written nth column kind.Str (variant.Bool b) same held = cc
value_written nth column kind.Bool (variant.Int n) same held = cc
value_written nth column kind.Bool (variant.Str s) same held = cc
value_written nth column kind.Bool (variant.Bool b) same held = (rw (bool_of_field-written b) refl, truth_is_text b)

-- the fields of a row
record IsWritten (nth column : ℕ) (schema : List Column) (row : List Value) : Type 0 where
  values : each_numbered (value_under nth) column (zip schema (map value_field row)) ≡ Ok row
  text : is_text (map value_field row) ≡ true
  size : length (map value_field row) ≡ length schema

row_fields_written : (nth column : ℕ) (schema : List Column) (row : List Value)
    → fits_schema schema row ≡ true → list_all is_held row ≡ true → IsWritten nth column schema row
row_fields_written nth column [] [] typed held = record { values = refl; text = refl; size = refl }
row_fields_written nth column [] (v ∷ vs) typed held = cc
row_fields_written nth column (c ∷ cs) [] typed held = cc
row_fields_written nth column (c ∷ cs) (v ∷ vs) typed held =
    let (same, types) = and_parts (same_type c.kind (type_of v)) (fits_schema cs vs) typed in
    let (mine, rest) = and_parts (is_held v) (list_all is_held vs) held in
    let (value, utf8) = value_written nth column c.kind v same mine in
    let more = row_fields_written nth (column + 1) cs vs types rest in
    record { values = rw (value, more.values) refl; text = rw (utf8, more.text) refl; size = ap suc more.size }

rows_written : (n : ℕ) (schema : List Column) (rows : List (List Value)) → n + length rows ≤ most_rows + 1
    → All (HasTypes schema) rows → list_all (list_all is_held) rows ≡ true
    → each_numbered (row_of_record schema) n (map (map value_field) rows) ≡ Ok rows
rows_written n schema [] few typed held = refl
rows_written n schema (row ∷ rows) few typed held =
    let (mine, others) = and_parts (list_all is_held row) (list_all (list_all is_held) rows) held in
    let written = row_fields_written n 1 schema row (typed 0 row (omega arith)) mine in
    rw (
      row_of_record-values schema n (map value_field row) (omega arith) written.text written.size,
      written.values,
      rows_written (n + 1) schema rows (omega arith) (λ k d low. typed (suc k) d (omega arith)) others,
    ) refl

-- ---- the records

-- the csv crate reads back the record that it writes
records_after-row_text : (fields : Record) (tail : List ℕ)
    → records_after st.StartRecord (row_text default_writer fields ++ tail) ≡ read_back fields ∷ records_after
    st.StartRecord tail
records_after-row_text fields tail = records_after-Some st.StartRecord (row_text default_writer fields ++ tail)
    (read_back fields, st.StartRecord, tail) (read-write fields tail)

no_records : records_after st.StartRecord [] ≡ []
unfolding next_record
no_records = records_after-None st.StartRecord [] refl

-- a row under some column has a field
read_back-row : (c : Column) (cs : List Column) (row : List Value) → fits_schema (c ∷ cs) row ≡ true
    → read_back (map value_field row) ≡ map value_field row
read_back-row c cs [] typed = cc
read_back-row c cs (v ∷ vs) typed = refl

records_after-rows : (c : Column) (cs : List Column) (rows : List (List Value)) → All (HasTypes (c ∷ cs)) rows
    → records_after st.StartRecord (flat_map row_record rows) ≡ map (map value_field) rows
unfolding row_record
records_after-rows c cs [] typed = no_records
records_after-rows c cs (row ∷ rows) typed =
    records_after-row_text (map value_field row) (flat_map row_record rows)
    ∙ rw (
      read_back-row c cs row (typed 0 row (omega arith)),
      records_after-rows c cs rows
          (λ k d low. typed (suc k) d (omega arith)),
    ) refl

-- the file has no mark to take off
strip_bom-file_text : (c : Column) (cs : List Column) (rows : List (List Value)) → strip_bom c.name ≡ c.name
    → strip_bom (file_text (record { schema = c ∷ cs; rows = rows })) ≡ file_text
    (record { schema = c ∷ cs; rows = rows })
unfolding header_record
strip_bom-file_text c cs rows unmarked =
    let field = header_field c in
    let others = fields_text default_writer (map header_field cs) in
    let end = (if is_blank default_writer (map header_field (c ∷ cs)) then 34 ∷ 34 ∷ [] else []) ++ 10 ∷ [] in
    let below = flat_map row_record rows in
    let first = field_text default_writer field in
    let parts : file_text (record { schema = c ∷ cs; rows = rows }) ≡ first ++ (others ++ (end ++ below)) =
    append_assoc (first ++ others) end below ∙ append_assoc first others (end ++ below) in
    let named : field ≡ c.name ++ 58 ∷ type_name c.kind = append_assoc c.name (codes ":") (type_name c.kind) in
    let same : file_text (record { schema = c ∷ cs; rows = rows }) ≡ field_text default_writer
    (c.name ++ 58 ∷ type_name c.kind) ++ (others ++ (end ++ below)) =
    parts ∙ ap (λ (f : List ℕ). field_text default_writer f ++ (others ++ (end ++ below))) named in
    rw same (strip_bom-field c.name (type_name c.kind) (others ++ (end ++ below)) unmarked)

records_of_bytes-file_text : (c : Column) (cs : List Column) (rows : List (List Value)) → strip_bom c.name ≡ c.name
    → All (HasTypes (c ∷ cs)) rows
    → records_of_bytes (file_text (record { schema = c ∷ cs; rows = rows })) ≡ map header_field (c ∷ cs) ∷ map
    (map value_field) rows
unfolding header_record
records_of_bytes-file_text c cs rows unmarked typed =
    ap (records_after st.StartRecord) (strip_bom-file_text c cs rows unmarked)
    ∙ records_after-row_text (map header_field (c ∷ cs)) (flat_map row_record rows)
    ∙ ap (λ others. map header_field (c ∷ cs) ∷ others) (records_after-rows c cs rows typed)

-- what is written of columns and rows is read back
relation_of_bytes-written : (schema : List Column) (rows : List (List Value))
    → FitsFile (record { schema = schema; rows = rows })
    → relation_of_bytes (file_text (record { schema = schema; rows = rows })) ≡ Ok
    (record { schema = schema; rows = rows })
relation_of_bytes-written [] rows h = let some = h.some_column in absurd (omega arith)
relation_of_bytes-written (c ∷ cs) rows h =
    let (columns, text) = header_written 1 (c ∷ cs) h.text_names in
    let columns_size = length-map (c ∷ cs) header_field in
    let few_columns = h.few_columns in
    let few_rows = h.few_rows in
    relation_of_bytes-rows (file_text (record { schema = c ∷ cs; rows = rows })) (map header_field (c ∷ cs))
    (map (map value_field) rows) (c ∷ cs)
    (records_of_bytes-file_text c cs rows h.unmarked h.typed)
    (schema_of_record-columns (map header_field (c ∷ cs)) text (omega arith) ∙ columns)
    ∙ relation_of_rows-Ok (c ∷ cs) rows _ (rows_written 1 (c ∷ cs) rows (omega arith) h.typed h.held)

-- the same of a relation
pub relation_of_bytes-file_text : (relation : RelationState) → FitsFile relation
    → relation_of_bytes (file_text relation) ≡ Ok relation
relation_of_bytes-file_text relation h = relation_of_bytes-written relation.schema relation.rows h
