-- The relation of a file, by its header and its rows.
use Rattle.std.proofs.Common.{◌≡◌, ◌∙◌, ℕ, Result, Ok, Err, List, [], ◌∷◌, ap, drop, refl}
use Rattle.rel_base.specs.declared.relations.Column.{Column}
use Rattle.rel_base.specs.declared.values.Value.{Value}
use Rattle.relation_csv.specs.declared.faults.RelFault.{RelFault}
use Rattle.relation_csv.specs.Files.{Record, records_of_bytes, relation_of_bytes, relation_of_records, relation_of_rows, relation_under, relation_with, rows_of_records, schema_of_record}
use Rattle.relation_csv.specs.inner.RecordsLeft.{schema_ahead}

-- the rows stand behind the header
relation-headed : (records : List Record) → relation_of_records records ≡ relation_under (drop 1 records) (schema_ahead records)
relation-headed [] = refl
relation-headed (header ∷ others) = refl

module _ (bytes : List ℕ) where
  pub relation_of_bytes-no_header : (why : RelFault) → schema_ahead (records_of_bytes bytes) ≡ Err why → relation_of_bytes bytes ≡ Err why
  unfolding relation_of_bytes
  relation_of_bytes-no_header why none =
      relation-headed (records_of_bytes bytes) ∙ ap (relation_under (drop 1 (records_of_bytes bytes))) none

  pub relation_of_bytes-header : (schema : List Column) → schema_ahead (records_of_bytes bytes) ≡ Ok schema
      → relation_of_bytes bytes ≡ relation_of_rows schema (rows_of_records schema (drop 1 (records_of_bytes bytes)))
  unfolding relation_of_bytes
  relation_of_bytes-header schema named =
      relation-headed (records_of_bytes bytes) ∙ ap (relation_under (drop 1 (records_of_bytes bytes))) named

  pub relation_of_bytes-rows : (header : Record) (others : List Record) (schema : List Column)
      → records_of_bytes bytes ≡ header ∷ others → schema_of_record header ≡ Ok schema
      → relation_of_bytes bytes ≡ relation_of_rows schema (rows_of_records schema others)
  unfolding relation_of_bytes
  relation_of_bytes-rows header others schema all named = rw (all, named) refl

  pub relation_with-rows : (schema : List Column) (skip : ℕ) (left : List Record)
      → drop skip (records_of_bytes bytes) ≡ left
      → relation_with bytes schema skip ≡ relation_of_rows schema (rows_of_records schema left)
  unfolding relation_with
  relation_with-rows schema skip left e = rw e refl

-- the rows decide the relation
pub relation_of_rows-Ok : (schema : List Column) (rows : List (List Value)) (r : Result (List (List Value)) RelFault)
    → r ≡ Ok rows → relation_of_rows schema r ≡ Ok (record { schema = schema; rows = rows })
relation_of_rows-Ok schema rows r e = rw e refl

pub relation_of_rows-Err : (schema : List Column) (why : RelFault) (r : Result (List (List Value)) RelFault)
    → r ≡ Err why → relation_of_rows schema r ≡ Err why
relation_of_rows-Err schema why r e = rw e refl
