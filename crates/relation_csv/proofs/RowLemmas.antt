-- The row of a record, or its fault.
use Rattle.std.proofs.Common.{◌≡◌, ◌≢◌, ℕ, ◌<◌, ◌≤◌, true, false, Err, List, length, zip, refl}
use Rattle.std.proofs.lemmas.Bool.{eq-eqb, ne_eqb, le-ltb, lt-ltb}
use Rattle.rel_base.specs.Limits.{most_rows}
use Rattle.rel_base.specs.declared.relations.Column.{Column}
use Rattle.relation_csv.specs.declared.faults.RelFault.TheVariants as fault
use Rattle.relation_csv.specs.Files.{Record, is_text, row_of_record, value_under}
use Rattle.relation_csv.specs.Numbered.{each_numbered}

module _ (schema : List Column) (nth : ℕ) (fields : Record) where
  pub row_of_record-too_many : most_rows < nth → row_of_record schema nth fields ≡ Err fault.TooManyRows
  row_of_record-too_many many = rw (lt-ltb most_rows nth many) refl

  pub row_of_record-not_text : nth ≤ most_rows → is_text fields ≡ false
      → row_of_record schema nth fields ≡ Err (fault.NotText nth)
  row_of_record-not_text few not_text = rw (le-ltb most_rows nth few, not_text) refl

  pub row_of_record-field_count : nth ≤ most_rows → is_text fields ≡ true → length fields ≢ length schema
      → row_of_record schema nth fields ≡ Err (fault.FieldCount nth)
  row_of_record-field_count few text other =
      rw (le-ltb most_rows nth few, text, ne_eqb (length fields) (length schema) other) refl

  pub row_of_record-values : nth ≤ most_rows → is_text fields ≡ true → length fields ≡ length schema
      → row_of_record schema nth fields ≡ each_numbered (value_under nth) 1 (zip schema fields)
  row_of_record-values few text same =
      rw (le-ltb most_rows nth few, text, eq-eqb (length fields) (length schema) same) refl
