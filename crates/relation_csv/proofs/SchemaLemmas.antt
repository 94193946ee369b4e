-- The columns of a header, or its fault.
use Rattle.std.proofs.Common.{◌≡◌, ◌<◌, ◌≤◌, true, false, Err, length, refl}
use Rattle.std.proofs.lemmas.Bool.{le-ltb, lt-ltb}
use Rattle.rel_base.specs.Limits.{most_columns}
use Rattle.relation_csv.specs.declared.faults.RelFault.TheVariants as fault
use Rattle.relation_csv.specs.Fields.{column_of_field}
use Rattle.relation_csv.specs.Files.{Record, is_text, schema_of_record}
use Rattle.relation_csv.specs.Numbered.{each_numbered}

pub schema_of_record-not_text : (header : Record) → is_text header ≡ false
    → schema_of_record header ≡ Err (fault.NotText 0)
schema_of_record-not_text header not_text = rw not_text refl

pub schema_of_record-too_many : (header : Record) → is_text header ≡ true → most_columns < length header
    → schema_of_record header ≡ Err fault.TooManyColumns
schema_of_record-too_many header text many = rw (text, lt-ltb most_columns (length header) many) refl

pub schema_of_record-columns : (header : Record) → is_text header ≡ true → length header ≤ most_columns
    → schema_of_record header ≡ each_numbered column_of_field 1 header
schema_of_record-columns header text few = rw (text, le-ltb most_columns (length header) few) refl
