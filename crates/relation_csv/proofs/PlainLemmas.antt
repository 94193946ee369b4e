-- Where no byte means a quote or a carriage return, a field lies before the next comma, and a record is a line.
use Rattle.std.proofs.Common.{◌≡◌, ◌≢◌, ◌==◌, ◌∙◌, ℕ, zero, suc, ◌+◌, ◌-◌, ◌<◌, ◌≤◌, Bool, true, false, Option, Some, None, Ok, List, [], ◌∷◌, ◌++◌, length, get_or, take, drop, zip, subst, refl, sym, ap, arith, length-append, length-take}
use Rattle.std.specs.List.{list_any}
use Rattle.std.proofs.lemmas.Bool.{eqb-true, ne_eqb}
use Rattle.std.proofs.lemmas.List.{append-nil, take_all, take_more}
use Rattle.std.proofs.lemmas.Slice.Zip.{length-zip}
use Rattle.std.specs.Str.{IsUtf8}
use Rattle.std.proofs.Math.Seq.{drop-nil}
use Rattle.csv.specs.Machine.{Read, next_record}
use Rattle.csv.specs.Reading.{default_config, is_bom, strip_bom}
use Rattle.csv.specs.Writing.{default_writer, field_text, needs_byte}
use Rattle.csv.specs.Records.{AllText}
use Rattle.csv.specs.declared.parser.State.TheVariants as state
use Rattle.csv.proofs.RoundTrip.{field-run, plain-run, record-same, start-same}
use Rattle.csv.proofs.RecordFacts.{text-more}
use Rattle.rel_base.specs.Limits.{most_rows}
use Rattle.rel_base.specs.declared.relations.Column.{Column}
use Rattle.rel_base.specs.declared.values.Value.{Value}
use Rattle.relation_csv.specs.Fields.{value_of_field}
use Rattle.relation_csv.specs.Files.{Record, value_under}
use Rattle.relation_csv.specs.Numbered.{each_numbered}
use Rattle.relation_csv.specs.inner.PlainLines.{BeginsWithField, BeginsWithRow, IsLine, record_from, record_on}
use Rattle.relation_csv.specs.inner.RecordsLeft.{records_after}
use Rattle.relation_csv.proofs.NumberedLemmas.{each_numbered-push, length-each_numbered}
use Rattle.relation_csv.proofs.RowLemmas.{row_of_record-values}
use Rattle.relation_csv.proofs.RecordsLeftLemmas.{is_text-AllText, next_record-shorter, records_after-None, records_after-Some}

-- a field without marks, up to what follows it
plain-field : (before : Record) (x : List ℕ) (c : ℕ) (rest : List ℕ) → (c == 34) ≡ false
    → list_any (needs_byte default_writer) x ≡ false
    → record_from before (x ++ (c ∷ rest)) ≡ next_record default_config state.InField before x (c ∷ rest)
plain-field before x c rest other plain =
    let text : field_text default_writer x ≡ x = rw plain refl in
    rw text at (field-run before x c rest other)

-- a field without marks, up to the end of the text
plain-all : (before : Record) (x : List ℕ) → list_any (needs_byte default_writer) x ≡ false
    → next_record default_config state.InField before [] x ≡ next_record default_config state.InField before x []
plain-all before x plain = rw (append-nil x) at (plain-run before [] x [] plain)

-- a field without marks begins with no quote
no_quote : (b : ℕ) (xs : List ℕ) → list_any (needs_byte default_writer) (b ∷ xs) ≡ false → (b == 34) ≡ false
no_quote b xs plain = by (b == 34) refl
  where
    by : (q : Bool) → (b == 34) ≡ q → q ≡ false
    by false e = refl
    by true e =
        let same : b ≡ 34 = eqb-true b 34 e in
        let marked : true ≡ false = rw same at plain in
        cc

-- a text is what stands before one of its bytes, the byte, and what stands behind it
cut-at : (xs : List ℕ) (n b : ℕ) → n < length xs → get_or xs n 0 ≡ b → take n xs ++ (b ∷ drop (n + 1) xs) ≡ xs
cut-at [] n b low at = absurd (omega arith)
cut-at (x ∷ xs) zero b low at = ap (λ y. y ∷ xs) (sym at)
cut-at (x ∷ xs) (suc n) b low at =
    let one : suc n + 1 ≡ suc (n + 1) = omega arith in
    rw one (ap (λ l. x ∷ l) (cut-at xs n b (omega arith) at))

-- a field without marks before a comma
pub BeginsWithField-comma : (x rest : List ℕ) → list_any (needs_byte default_writer) x ≡ false
    → BeginsWithField (x ++ (44 ∷ rest)) x true rest
unfolding next_record
BeginsWithField-comma x rest plain before = plain-field before x 44 rest refl plain

-- a field without marks at the end of a line
pub BeginsWithField-line : (x rest : List ℕ) → list_any (needs_byte default_writer) x ≡ false
    → BeginsWithField (x ++ (10 ∷ rest)) x false rest
unfolding next_record
BeginsWithField-line x rest plain before = plain-field before x 10 rest refl plain

-- the same, by the place of the byte that ends the field
pub BeginsWithField-comma_at : (text : List ℕ) (n : ℕ) (field rest : List ℕ) → n < length text → get_or text n 0 ≡ 44
    → field ≡ take n text → rest ≡ drop (n + 1) text → list_any (needs_byte default_writer) (take n text) ≡ false
    → BeginsWithField text field true rest
BeginsWithField-comma_at text n field rest low at front behind plain =
    rw (front, behind)
    (subst (λ t. BeginsWithField t (take n text) true (drop (n + 1) text)) (cut-at text n 44 low at)
    (BeginsWithField-comma (take n text) (drop (n + 1) text) plain))

pub BeginsWithField-line_at : (text : List ℕ) (n : ℕ) (field rest : List ℕ) → n < length text → get_or text n 0 ≡ 10
    → field ≡ take n text → rest ≡ drop (n + 1) text → list_any (needs_byte default_writer) (take n text) ≡ false
    → BeginsWithField text field false rest
BeginsWithField-line_at text n field rest low at front behind plain =
    rw (front, behind)
    (subst (λ t. BeginsWithField t (take n text) false (drop (n + 1) text)) (cut-at text n 10 low at)
    (BeginsWithField-line (take n text) (drop (n + 1) text) plain))

-- a field without marks at the end of the text
pub BeginsWithField-end : (x : List ℕ) → list_any (needs_byte default_writer) x ≡ false → BeginsWithField x x false []
unfolding next_record
BeginsWithField-end [] plain before = refl
BeginsWithField-end (b ∷ xs) plain before =
    start-same before [] b xs (no_quote b xs plain) ∙ plain-all before (b ∷ xs) plain

-- a text that begins with a line feed has the records of what stands behind it
pub records_after-line_feed : (rest : List ℕ)
    → records_after state.StartRecord (10 ∷ rest) ≡ records_after state.StartRecord rest
unfolding next_record
records_after-line_feed rest = by (next_record default_config state.StartRecord [] [] rest) refl
  where
    by : (o : Option Read) → next_record default_config state.StartRecord [] [] rest ≡ o
        → records_after state.StartRecord (10 ∷ rest) ≡ records_after state.StartRecord rest
    by None e =
        records_after-None state.StartRecord (10 ∷ rest) e ∙ sym (records_after-None state.StartRecord rest e)
    by (Some p) e =
        records_after-Some state.StartRecord (10 ∷ rest) p e ∙ sym (records_after-Some state.StartRecord rest p e)

-- a text that begins with neither a line feed nor a carriage return begins with a field
pub IsLine-from_first : (text : List ℕ) → get_or text 0 0 ≢ 13 → get_or text 0 0 ≢ 10 → IsLine text
IsLine-from_first [] returns feeds some = absurd (omega arith)
IsLine-from_first (c ∷ rest) returns feeds some = record-same [] [] c rest (ne_eqb c 13 returns) (ne_eqb c 10 feeds)

-- the same of a text by its first byte
pub records_after-first_line_feed : (text rest : List ℕ) → 0 < length text → get_or text 0 0 ≡ 10 → rest ≡ drop 1 text
    → records_after state.StartRecord text ≡ records_after state.StartRecord rest
records_after-first_line_feed [] rest some feeds behind = absurd (omega arith)
records_after-first_line_feed (c ∷ xs) rest some feeds behind = rw (behind, feeds) (records_after-line_feed xs)

-- a line whose record has these fields, and what stands behind it
pub records_after-line : (line : List ℕ) (fields : Record) (rest : List ℕ) → IsLine line → 0 < length line
    → record_from [] line ≡ record_on fields false rest
    → records_after state.StartRecord line ≡ fields ∷ records_after state.StartRecord rest
records_after-line line fields rest is some reads =
    records_after-Some state.StartRecord line (fields, state.StartRecord, rest) (is some ∙ reads)

pub length-behind_line : (line : List ℕ) (fields : Record) (rest : List ℕ) → 0 < length line
    → record_from [] line ≡ record_on fields false rest → length rest < length line
length-behind_line [] fields rest some reads = absurd (omega arith)
length-behind_line (c ∷ xs) fields rest some reads =
    let shorter = next_record-shorter default_config state.StartField [] [] c xs (fields, state.StartRecord, rest) reads in
    omega arith

-- a text with and without a byte order mark
pub strip_bom-marked : (xs : List ℕ) → 3 ≤ length xs → is_bom (get_or xs 0 0) (get_or xs 1 0) (get_or xs 2 0) ≡ true
    → take (length xs - 3) (drop 3 xs) ≡ strip_bom xs
unfolding strip_bom
strip_bom-marked [] long marked = absurd (omega arith)
strip_bom-marked (a ∷ []) long marked = absurd (omega arith)
strip_bom-marked (a ∷ b ∷ []) long marked = absurd (omega arith)
strip_bom-marked (a ∷ b ∷ c ∷ rest) long marked =
    rw marked (take_all (length (a ∷ b ∷ c ∷ rest) - 3) rest (omega arith))

pub strip_bom-unmarked : (xs : List ℕ) → 3 ≤ length xs
    → is_bom (get_or xs 0 0) (get_or xs 1 0) (get_or xs 2 0) ≡ false → xs ≡ strip_bom xs
unfolding strip_bom
strip_bom-unmarked [] long unmarked = absurd (omega arith)
strip_bom-unmarked (a ∷ []) long unmarked = absurd (omega arith)
strip_bom-unmarked (a ∷ b ∷ []) long unmarked = absurd (omega arith)
strip_bom-unmarked (a ∷ b ∷ c ∷ rest) long unmarked = rw unmarked refl

-- a list behind its first items
pub drop-one_more : (n m : ℕ) (xs : List Record) → n ≡ m + 1 → drop n xs ≡ drop m (drop 1 xs)
drop-one_more n m [] more = drop-nil n ∙ sym (drop-nil m)
drop-one_more n m (x ∷ xs) more = let one : n ≡ suc m = omega arith in rw one refl

-- no record stands in an empty text
pub records_after-nothing : (text : List ℕ) → length text ≡ 0 → records_after state.StartRecord text ≡ []
unfolding next_record
records_after-nothing [] none = records_after-None state.StartRecord [] refl
records_after-nothing (c ∷ rest) none = absurd (omega arith)

-- two lists in pairs, with one item more each
zip-push : (xs : List Column) (ys : Record) (x : Column) (y : List ℕ) → length xs ≡ length ys
    → zip (xs ++ x ∷ []) (ys ++ y ∷ []) ≡ zip xs ys ++ (x, y) ∷ []
zip-push [] [] x y same = refl
zip-push [] (b ∷ bs) x y same = absurd (omega arith)
zip-push (a ∷ cs) [] x y same = absurd (omega arith)
zip-push (a ∷ cs) (b ∷ bs) x y same = ap (λ l. (a, b) ∷ l) (zip-push cs bs x y (omega arith))

-- of a line so many fields were read, which write these values
pub record HasFields (schema : List Column) (nth : ℕ) (line left : List ℕ) (more : Bool) (row : List Value)
    (count : ℕ) : Type 0 where
  pub fields : Record
  pub number : length fields ≡ count
  pub text : AllText fields
  pub values : each_numbered (value_under nth) 1 (zip (take count schema) fields) ≡ Ok row
  pub reads : record_from [] line ≡ record_on fields more left

module _ (schema : List Column) (nth : ℕ) (line : List ℕ) where
  pub HasFields-none : HasFields schema nth line line true [] 0
  unfolding AllText
  HasFields-none = record { fields = []; number = refl; text = tt; values = refl; reads = refl }

  pub length-row : (left : List ℕ) (more : Bool) (row : List Value) (i : ℕ) → HasFields schema nth line left more row i
      → i ≤ length schema → length row ≡ i
  length-row left more row i h low =
      let size = length-each_numbered (value_under nth) 1 (zip (take i schema) h.fields) row h.values in
      omega (arith, length-zip (take i schema) h.fields, length-take i schema, h.number)

  -- one field more
  pub HasFields-push : (left : List ℕ) (row : List Value) (i : ℕ) → HasFields schema nth line left true row i
      → (column : Column) (field : List ℕ) (more : Bool) (rest : List ℕ) (value : Value) (number : ℕ)
      → i < length schema → column ≡ get_or schema i column → number ≡ length row + 1 → IsUtf8 field
      → BeginsWithField left field more rest → value_of_field nth number column.kind field ≡ Ok value
      → HasFields schema nth line rest more (row ++ value ∷ []) (i + 1)
  HasFields-push left row i h column field more rest value number low at is text begins e =
      let longer = take_more schema i column low in
      let size = length-row left true row i h (omega arith) in
      let taken = length-take i schema in
      let pairs = zip-push (take i schema) h.fields column field (omega (arith, h.number)) in
      record {
        fields = h.fields ++ field ∷ [];
        number = omega (arith, length-append h.fields (field ∷ []), h.number);
        text = text-more h.fields field h.text text;
        values = rw (longer, ← at, pairs)
            (each_numbered-push (value_under nth) 1 (zip (take i schema) h.fields) (column, field) row value number
            (omega (arith, length-zip (take i schema) h.fields, h.number)) h.values e);
        reads = h.reads ∙ begins h.fields;
      }

  -- all fields of the record
  pub BeginsWithRow-all : (rest : List ℕ) (row : List Value) (i : ℕ) → HasFields schema nth line rest false row i
      → i ≡ length schema → nth ≤ most_rows → BeginsWithRow schema nth line row rest
  BeginsWithRow-all rest row i h all few =
      let whole : take i schema ≡ schema = take_all i schema (omega arith) in (
        h.fields,
        h.reads,
        row_of_record-values schema nth h.fields few (is_text-AllText h.fields h.text)
            (omega (arith, h.number)) ∙ rw whole at h.values,
      )
