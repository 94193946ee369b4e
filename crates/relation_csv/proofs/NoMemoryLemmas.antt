-- What a file comes to is never want of memory.
use Rattle.std.proofs.Common.{◌≢◌, ℕ, ◌+◌, Bool, true, false, cond, ltb, eqb, not, Option, Some, None, Result, Ok, Err, List, [], ◌∷◌, length, zip, drop}
use Rattle.std.specs.Option.{ok_or}
use Rattle.rel_base.specs.Limits.{most_columns, most_rows}
use Rattle.rel_base.specs.declared.relations.Column.{Column}
use Rattle.rel_base.specs.declared.values.ColType.{ColType}
use Rattle.rel_base.specs.declared.values.ColType.TheVariants as kind
use Rattle.rel_base.specs.declared.values.Value.{Value}
use Rattle.relation_csv.specs.declared.faults.RelFault.{RelFault}
use Rattle.relation_csv.specs.declared.faults.RelFault.TheVariants as fault
use Rattle.relation_csv.specs.Fields.{column_of_field, value_of_field}
use Rattle.relation_csv.specs.Files.{Record, is_text, records_of_bytes, relation_of_bytes, relation_of_records, relation_of_rows, relation_under, relation_with, row_of_record, schema_of_record, value_under}
use Rattle.relation_csv.specs.Numbered.{each_numbered, put_first}

-- not want of memory
abbrev Given : {X : Type 0} → Result X RelFault → Type 0
Given r = r ≢ Err fault.Memory

Given-Ok : {X : Type 0} (x : X) → Given (Ok x)
Given-Ok x = λ e. cc

Given-Err : {X : Type 0} (why : RelFault) → why ≢ fault.Memory → Given {X = X} (Err why)
Given-Err why other = λ e. other (cc)

Given-ok_or : {X : Type 0} (o : Option X) (why : RelFault) → why ≢ fault.Memory → Given (ok_or o why)
Given-ok_or (Some x) why other = Given-Ok x
Given-ok_or None why other = Given-Err why other

Given-cond : {X : Type 0} (test : Bool) (a b : Result X RelFault) → Given a → Given b → Given (cond test a b)
Given-cond true a b x y = x
Given-cond false a b x y = y

Given-each : {X Y : Type 0} (f : ℕ → X → Result Y RelFault) → ((n : ℕ) (x : X) → Given (f n x))
    → (n : ℕ) (xs : List X) → Given (each_numbered f n xs)
Given-each f each n [] = Given-Ok []
Given-each {X = X} {Y = Y} f each n (x ∷ xs) =
    by (f n x) (each_numbered f (n + 1) xs) (each n x) (Given-each f each (n + 1) xs)
  where
    by : (a : Result Y RelFault) (b : Result (List Y) RelFault) → Given a → Given b → Given (put_first a b)
    by (Ok y) (Ok ys) p q = Given-Ok (y ∷ ys)
    by (Ok y) (Err why) p q = λ e. q (cc)
    by (Err why) b p q = λ e. p (cc)

Given-column : (number : ℕ) (field : List ℕ) → Given (column_of_field number field)
Given-column number field = Given-cond _ _ _ (Given-ok_or _ (fault.BadHeader number) (λ e. cc)) (Given-Ok _)

Given-value : (nth column : ℕ) (k : ColType) (field : List ℕ) → Given (value_of_field nth column k field)
Given-value nth column kind.Int field = Given-ok_or _ (fault.BadInt nth column) (λ e. cc)
Given-value nth column kind.Str field = Given-Ok _
Given-value nth column kind.Bool field = Given-ok_or _ (fault.BadBool nth column) (λ e. cc)

Given-schema : (header : Record) → Given (schema_of_record header)
Given-schema header =
    Given-cond (not (is_text header)) _ _ (Given-Err (fault.NotText 0) (λ e. cc))
    (Given-cond (ltb most_columns (length header)) _ _ (Given-Err fault.TooManyColumns (λ e. cc)) (Given-each column_of_field Given-column 1 header))

Given-row : (schema : List Column) (nth : ℕ) (fields : Record) → Given (row_of_record schema nth fields)
Given-row schema nth fields =
    Given-cond (ltb most_rows nth) _ _ (Given-Err fault.TooManyRows (λ e. cc))
    (Given-cond (not (is_text fields)) _ _ (Given-Err (fault.NotText nth) (λ e. cc))
    (Given-cond (not (eqb (length fields) (length schema))) _ _ (Given-Err (fault.FieldCount nth) (λ e. cc))
    (Given-each (value_under nth) (λ column p. Given-value nth column p.0.kind p.1) 1 (zip schema fields))))

Given-relation : (schema : List Column) (r : Result (List (List Value)) RelFault) → Given r
    → Given (relation_of_rows schema r)
Given-relation schema (Ok rows) p = Given-Ok _
Given-relation schema (Err why) p = λ e. p (cc)

Given-under : (records : List Record) (r : Result (List Column) RelFault) → Given r
    → Given (relation_under records r)
Given-under records (Ok schema) p =
    Given-relation schema _ (Given-each (row_of_record schema) (Given-row schema) 1 records)
Given-under records (Err why) p = λ e. p (cc)

Given-records : (records : List Record) → Given (relation_of_records records)
Given-records [] = Given-Err fault.NoHeader (λ e. cc)
Given-records (header ∷ others) = Given-under others (schema_of_record header) (Given-schema header)

pub relation_of_bytes-no_memory : (bytes : List ℕ) → relation_of_bytes bytes ≢ Err fault.Memory
unfolding relation_of_bytes
relation_of_bytes-no_memory bytes = Given-records (records_of_bytes bytes)

pub relation_with-no_memory : (bytes : List ℕ) (schema : List Column) (skip : ℕ)
    → relation_with bytes schema skip ≢ Err fault.Memory
unfolding relation_with
relation_with-no_memory bytes schema skip = Given-under (drop skip (records_of_bytes bytes)) (Ok schema) (Given-Ok schema)
