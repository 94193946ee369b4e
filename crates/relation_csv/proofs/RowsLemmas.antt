-- The rows of the records of a file, as far as they are read.
use Rattle.std.proofs.Common.{◌≡◌, ◌∙◌, ℕ, ◌+◌, ◌≤◌, Ok, Err, List, [], ◌∷◌, ◌++◌, length, refl, sym, ap, append_assoc, arith, length-append}
use Rattle.std.proofs.lemmas.List.{append-nil}
use Rattle.rel_base.specs.Limits.{most_rows}
use Rattle.rel_base.specs.declared.relations.Column.{Column}
use Rattle.rel_base.specs.declared.values.Value.{Value}
use Rattle.relation_csv.specs.declared.faults.RelFault.{RelFault}
use Rattle.relation_csv.specs.Files.{Record, row_of_record, rows_of_records}
use Rattle.relation_csv.specs.Numbered.{each_numbered}
use Rattle.relation_csv.proofs.NumberedLemmas.{each_numbered-fault, each_numbered-push, length-each_numbered}

-- of the records `before`, those that are not left have these rows
pub record HasRows (schema : List Column) (before left : List Record) (rows : List (List Value)) : Type 0 where
  pub done : List Record
  pub split : before ≡ done ++ left
  pub read : each_numbered (row_of_record schema) 1 done ≡ Ok rows
  pub few : length rows ≤ most_rows

module _ (schema : List Column) (before left : List Record) (rows : List (List Value))
    (h : HasRows schema before left rows) where
  -- the next record's fault is that of the whole
  pub rows_of_records-fault : (fields : Record) (rest : List Record) (fault : RelFault) (nth : ℕ) → left ≡ fields ∷ rest
      → nth ≡ length rows + 1 → row_of_record schema nth fields ≡ Err fault → rows_of_records schema before ≡ Err fault
  rows_of_records-fault fields rest fault nth next number e =
      let size = length-each_numbered (row_of_record schema) 1 h.done rows h.read in
      ap (each_numbered (row_of_record schema) 1) (h.split ∙ ap (λ rs. h.done ++ rs) next)
      ∙ each_numbered-fault (row_of_record schema) 1 h.done fields rest rows fault nth (omega arith) h.read e

  -- one record more is read
  pub HasRows-push : (fields : Record) (rest : List Record) (row : List Value) (nth : ℕ) → left ≡ fields ∷ rest
      → nth ≡ length rows + 1 → nth ≤ most_rows → row_of_record schema nth fields ≡ Ok row
      → HasRows schema before rest (rows ++ row ∷ [])
  HasRows-push fields rest row nth next number room e =
      let size = length-each_numbered (row_of_record schema) 1 h.done rows h.read in
      record {
        done = h.done ++ fields ∷ [];
        split = h.split ∙ ap (λ rs. h.done ++ rs) next ∙ sym (append_assoc h.done (fields ∷ []) rest);
        read = each_numbered-push (row_of_record schema) 1 h.done fields rows row nth (omega arith) h.read e;
        few = let longer = length-append rows (row ∷ []) in omega arith;
      }

  -- no record is left
  pub rows_of_records-all : left ≡ [] → rows_of_records schema before ≡ Ok rows
  rows_of_records-all none =
      let whole : before ≡ h.done = h.split ∙ ap (λ rs. h.done ++ rs) none ∙ append-nil h.done in
      rw whole h.read

-- at the start nothing is read
pub HasRows-none : (schema : List Column) (before : List Record) → HasRows schema before before []
HasRows-none schema before = record { done = []; split = refl; read = refl; few = omega arith }
