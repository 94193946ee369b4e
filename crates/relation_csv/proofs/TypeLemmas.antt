-- The rows of a file have the types of its columns.
use Rattle.std.proofs.Common.{◌≡◌, ℕ, ◌+◌, eqb, ltb, Bool, true, false, cond, not, Option, Some, None, option_map, Result, Ok, Err, List, [], ◌∷◌, length, zip, refl, arith}
use Rattle.std.specs.Option.{ok_or}
use Rattle.std.specs.Prelude.{All}
use Rattle.std.proofs.lemmas.Bool.{and_from, eqb-true}
use Rattle.std.proofs.lemmas.List.Elements.{All-cons}
use Rattle.rel_base.specs.Limits.{most_rows}
use Rattle.rel_base.specs.declared.relations.Column.{Column}
use Rattle.rel_base.specs.declared.values.ColType.{ColType}
use Rattle.rel_base.specs.declared.values.ColType.TheVariants as kind
use Rattle.rel_base.specs.declared.values.Value.{Value}
use Rattle.rel_base.specs.declared.values.Value.TheVariants as variant
use Rattle.rel_base.specs.Relations.{HasTypes, fits_schema, same_type, type_of}
use Rattle.relation_csv.specs.declared.faults.RelFault.{RelFault}
use Rattle.relation_csv.specs.declared.faults.RelFault.TheVariants as fault
use Rattle.relation_csv.specs.Fields.{bool_of_field, int_of_field, value_of_field}
use Rattle.relation_csv.specs.Files.{Record, is_text, row_of_record, rows_of_records, value_under}
use Rattle.relation_csv.specs.Numbered.{each_numbered}
use Rattle.relation_csv.proofs.NumberedLemmas.{each_numbered-split}

-- what stands behind a test that answers with a fault
cond-Ok : {X : Type 0} (test : Bool) (why : RelFault) (r : Result X RelFault) (x : X) → cond test (Err why) r ≡ Ok x
    → (test ≡ false) × (r ≡ Ok x)
cond-Ok true why r x e = cc
cond-Ok false why r x e = (refl, e)

-- what is made of something, or a fault
ok_or-Ok : {X Y : Type 0} (f : X → Y) (o : Option X) (why : RelFault) (y : Y) → ok_or (option_map f o) why ≡ Ok y
    → (x : X) × (y ≡ f x)
ok_or-Ok f None why y e = cc
ok_or-Ok f (Some x) why y e = (x, cc)

-- a value that a field writes is of its column's type
type_of-value_of_field : (nth column : ℕ) (t : ColType) (field : List ℕ) (v : Value)
    → value_of_field nth column t field ≡ Ok v
    → same_type t (type_of v) ≡ true
type_of-value_of_field nth column kind.Int field v e =
    let (n, is) = ok_or-Ok variant.Int (int_of_field field) (fault.BadInt nth column) v e in rw is refl
type_of-value_of_field nth column kind.Str field v e = let is : v ≡ variant.Str field = cc in rw is refl
type_of-value_of_field nth column kind.Bool field v e =
    let (b, is) = ok_or-Ok variant.Bool (bool_of_field field) (fault.BadBool nth column) v e in rw is refl

-- a row of values that the fields write has the columns' types
fits_schema-each : (nth column : ℕ) (schema : List Column) (fields : Record) (row : List Value)
    → length fields ≡ length schema
    → each_numbered (value_under nth) column (zip schema fields) ≡ Ok row → fits_schema schema row ≡ true
fits_schema-each nth column [] [] row same e = let none : [] ≡ row = cc in rw (← none) refl
fits_schema-each nth column [] (f ∷ fs) row same e = absurd (omega arith)
fits_schema-each nth column (c ∷ cs) [] row same e = absurd (omega arith)
fits_schema-each nth column (c ∷ cs) (f ∷ fs) row same e =
    let (v, vs, first, others, is) = each_numbered-split (value_under nth) column (c, f) (zip cs fs) row e in
    rw is (and_from (same_type c.kind (type_of v)) (fits_schema cs vs)
    (type_of-value_of_field nth column c.kind f v first) (fits_schema-each nth (column + 1) cs fs vs (omega arith) others))

-- what is not false
not-false : (b : Bool) → not b ≡ false → b ≡ true
not-false true e = refl
not-false false e = cc

HasTypes-row_of_record : (schema : List Column) (nth : ℕ) (fields : Record) (row : List Value)
    → row_of_record schema nth fields ≡ Ok row → HasTypes schema row
HasTypes-row_of_record schema nth fields row e =
    let values = each_numbered (value_under nth) 1 (zip schema fields) in
    let counted = cond (not (eqb (length fields) (length schema))) (Err (fault.FieldCount nth)) values in
    let texts = cond (not (is_text fields)) (Err (fault.NotText nth)) counted in
    let (few, a) = cond-Ok (ltb most_rows nth) fault.TooManyRows texts row e in
    let (text, b) = cond-Ok (not (is_text fields)) (fault.NotText nth) counted row a in
    let (same, c) = cond-Ok (not (eqb (length fields) (length schema))) (fault.FieldCount nth) values row b in
    fits_schema-each nth 1 schema fields row (eqb-true (length fields) (length schema)
    (not-false (eqb (length fields) (length schema)) same)) c

-- each row of records does
HasTypes-each : (n : ℕ) (schema : List Column) (records : List Record) (rows : List (List Value))
    → each_numbered (row_of_record schema) n records ≡ Ok rows → All (HasTypes schema) rows
HasTypes-each n schema [] rows e = let none : [] ≡ rows = cc in rw (← none) (λ k d low. absurd (omega arith))
HasTypes-each n schema (fields ∷ records) rows e =
    let (row, rest, first, more, is) = each_numbered-split (row_of_record schema) n fields records rows e in
    rw is (All-cons (HasTypes schema) row rest (HasTypes-row_of_record schema n fields row first)
    (HasTypes-each (n + 1) schema records rest more))

pub HasTypes-rows_of_records : (schema : List Column) (records : List Record) (rows : List (List Value))
    → rows_of_records schema records ≡ Ok rows → All (HasTypes schema) rows
HasTypes-rows_of_records schema records rows e = HasTypes-each 1 schema records rows e
