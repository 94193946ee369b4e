-- Records that have rows have them under other numbers too, and so do records behind others.
use Rattle.std.proofs.Common.{◌≡◌, ◌==◌, ◌∙◌, ℕ, ℤ, ◌+◌, ◌≤◌, Bool, true, false, nat_lt, Option, Some, None, option_map, Result, Ok, List, [], ◌∷◌, ◌++◌, length, zip, refl, sym, ap, arith}
use Rattle.std.specs.Option.{ok_or}
use Rattle.std.proofs.lemmas.Bool.{eqb-true}
use Rattle.rel_base.specs.declared.values.Value.{Value}
use Rattle.rel_base.specs.declared.values.Value.TheVariants as variant
use Rattle.rel_base.specs.declared.values.ColType.{ColType}
use Rattle.rel_base.specs.declared.values.ColType.TheVariants as kind
use Rattle.rel_base.specs.declared.relations.Column.{Column}
use Rattle.rel_base.specs.Limits.{most_rows}
use Rattle.relation_csv.specs.declared.faults.RelFault.TheVariants as fault
use Rattle.relation_csv.specs.Fields.{bool_of_field, int_of_field, value_of_field}
use Rattle.relation_csv.specs.Files.{Record, is_text, row_of_record, rows_of_records, value_under}
use Rattle.relation_csv.specs.Numbered.{each_numbered, put_first}
use Rattle.relation_csv.proofs.NumberedLemmas.{each_numbered-split, length-each_numbered}
use Rattle.relation_csv.proofs.RowLemmas.{row_of_record-values}

module _ (n m : ℕ) where
  value_of_field-number : (column : ℕ) (type : ColType) (field : List ℕ) (value : Value)
      → value_of_field n column type field ≡ Ok value → value_of_field m column type field ≡ Ok value
  value_of_field-number column kind.Str field value e = e
  value_of_field-number column kind.Int field value e = by (int_of_field field) e
    where
      by : (o : Option ℤ) → ok_or (option_map variant.Int o) (fault.BadInt n column) ≡ Ok value
          → ok_or (option_map variant.Int o) (fault.BadInt m column) ≡ Ok value
      by (Some number) e = e
      by None e = cc e
  value_of_field-number column kind.Bool field value e = by (bool_of_field field) e
    where
      by : (o : Option Bool) → ok_or (option_map variant.Bool o) (fault.BadBool n column) ≡ Ok value
          → ok_or (option_map variant.Bool o) (fault.BadBool m column) ≡ Ok value
      by (Some truth) e = e
      by None e = cc e

  values-number : (k : ℕ) (pairs : List (Column × List ℕ)) (row : List Value)
      → each_numbered (value_under n) k pairs ≡ Ok row → each_numbered (value_under m) k pairs ≡ Ok row
  values-number k [] row e = e
  values-number k (p ∷ pairs) row e =
      let (y, ys, first, others, is) = each_numbered-split (value_under n) k p pairs row e in
      let same = value_of_field-number k p.0.kind p.1 y first in
      let more = values-number (k + 1) pairs ys others in
      let both : put_first (value_under m k p) (each_numbered (value_under m) (k + 1) pairs) ≡ Ok (y ∷ ys) = rw (same, more) refl in
      both ∙ ap (λ (l : List Value). Ok l) (sym is)

  row_of_record-number : (schema : List Column) (fields : Record) (row : List Value)
      → row_of_record schema n fields ≡ Ok row → m ≤ most_rows → row_of_record schema m fields ≡ Ok row
  row_of_record-number schema fields row e few =
      by (nat_lt most_rows n) (is_text fields) (length fields == length schema) refl refl refl
    where
      by : (a b c : Bool) → nat_lt most_rows n ≡ a → is_text fields ≡ b → (length fields == length schema) ≡ c
          → row_of_record schema m fields ≡ Ok row
      by true b c p q r = let k = rw p at e in cc
      by false false c p q r = let k = rw (p, q) at e in cc
      by false true false p q r = let k = rw (p, q, r) at e in cc
      by false true true p q r =
          let k = rw (p, q, r) at e in
          row_of_record-values schema m fields few q (eqb-true (length fields) (length schema) r)
          ∙ values-number 1 (zip schema fields) row k

rows-number : (schema : List Column) (n m : ℕ) (records : List Record) (rows : List (List Value))
    → each_numbered (row_of_record schema) n records ≡ Ok rows → m + length records ≤ most_rows + 1
    → each_numbered (row_of_record schema) m records ≡ Ok rows
rows-number schema n m [] rows e few = e
rows-number schema n m (r ∷ records) rows e few =
    let (y, ys, first, others, is) = each_numbered-split (row_of_record schema) n r records rows e in
    let same = row_of_record-number n m schema r y first (omega arith) in
    let more = rows-number schema (n + 1) (m + 1) records ys others (omega arith) in
    let both : put_first (row_of_record schema m r) (each_numbered (row_of_record schema) (m + 1) records) ≡ Ok (y ∷ ys) =
    rw (same, more) refl in
    both ∙ ap (λ (l : List (List Value)). Ok l) (sym is)

-- items of which something is made, behind others
each_numbered-append : {X Y E : Type 0} (f : ℕ → X → Result Y E) (n k : ℕ) (xs zs : List X) (ys ws : List Y)
    → each_numbered f n xs ≡ Ok ys → k ≡ n + length xs → each_numbered f k zs ≡ Ok ws
    → each_numbered f n (xs ++ zs) ≡ Ok (ys ++ ws)
each_numbered-append f n k [] zs ys ws e at g =
    let none : [] ≡ ys = cc in
    let same : k ≡ n = omega arith in
    rw (← none, ← same) g
each_numbered-append f n k (x ∷ xs) zs ys ws e at g =
    let (v, vs, first, others, is) = each_numbered-split f n x xs ys e in
    let more = each_numbered-append f (n + 1) k xs zs vs ws others (omega arith) g in
    let both : put_first (f n x) (each_numbered f (n + 1) (xs ++ zs)) ≡ Ok (v ∷ (vs ++ ws)) = rw (first, more) refl in
    both ∙ ap (λ (l : List _). Ok (l ++ ws)) (sym is)

-- the rows of records and of others behind them, if they are not too many together
pub rows_of_records-append : (schema : List Column) (records others : List Record) (rows more : List (List Value))
    → rows_of_records schema records ≡ Ok rows → rows_of_records schema others ≡ Ok more
    → length rows + length more ≤ most_rows
    → rows_of_records schema (records ++ others) ≡ Ok (rows ++ more)
rows_of_records-append schema records others rows more a b few =
    let front = length-each_numbered (row_of_record schema) 1 records rows a in
    let back = length-each_numbered (row_of_record schema) 1 others more b in
    each_numbered-append (row_of_record schema) 1 (1 + length records) records others rows more a refl
    (rows-number schema 1 (1 + length records) others more b (omega arith))
