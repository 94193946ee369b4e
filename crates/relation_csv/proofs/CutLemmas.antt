-- A text that is cut behind a line feed, with no quote and no carriage return before the cut: its records are those of its two
-- parts, one after another.
use Rattle.std.specs.Prelude.{◌⊎◌, ◌||◌}
use Rattle.std.proofs.Common.{◌≡◌, ◌==◌, ◌∙◌, ℕ, zero, suc, ◌+◌, ◌<◌, ◌≤◌, Bool, true, false, Option, Some, None, List, [], ◌∷◌, ◌++◌, length, inl, inr, refl, sym, ap, arith, length-append}
use Rattle.std.specs.List.{list_any}
use Rattle.std.proofs.lemmas.Bool.{cases_Bool}
use Rattle.std.proofs.lemmas.List.Folds.{list_any-append}
use Rattle.csv.specs.Machine.{Read, next_record}
use Rattle.csv.specs.Reading.{default_config}
use Rattle.csv.specs.declared.parser.State.{State}
use Rattle.csv.specs.declared.parser.State.TheVariants as state
use Rattle.relation_csv.specs.Files.{Record}
use Rattle.relation_csv.specs.inner.Ranges.{EndsLine, IsPlain, is_quote_or_return}
use Rattle.relation_csv.specs.inner.RecordsLeft.{records_after}
use Rattle.relation_csv.proofs.PlainLemmas.{records_after-nothing}
use Rattle.relation_csv.proofs.RecordsLeftLemmas.{next_record-shorter, records_after-None, records_after-Some}

or-left : (a b : Bool) → (a || b) ≡ false → a ≡ false
or-left false b e = refl
or-left true b e = cc e

or-right : (a b : Bool) → (a || b) ≡ false → b ≡ false
or-right false b e = e
or-right true b e = cc e

-- a text with a line feed at its end
abbrev line : List ℕ → List ℕ
line text = text ++ 10 ∷ []

-- what stands behind a record is nothing, or a plain text with a line feed at its end
abbrev IsRest : List ℕ → Type 0
IsRest rest = (rest ≡ []) ⊎ ((front : List ℕ) × (rest ≡ line front) × IsPlain front)

-- a record ends in the text, whatever stands behind the text
abbrev ReadsAlone : State → Record → List ℕ → List ℕ → List ℕ → Type 0
ReadsAlone s fields field text more =
    (read : Record) × (rest : List ℕ)
    × (next_record default_config s fields field text ≡ Some (read, state.StartRecord, rest))
    × (next_record default_config s fields field (text ++ more) ≡ Some (read, state.StartRecord, rest ++ more))
    × IsRest rest

-- no record begins in the text
abbrev HasNoRecord : List ℕ → List ℕ → Type 0
HasNoRecord text more =
    (next_record default_config state.StartRecord [] [] text ≡ None)
    × (next_record default_config state.StartRecord [] [] (text ++ more)
    ≡ next_record default_config state.StartRecord [] [] more)

-- a record goes on with no quote open
abbrev GoesOn : State → Type 0
GoesOn state.StartRecord = ⊥
GoesOn state.StartField = Unit {0}
GoesOn state.InField = Unit {0}
GoesOn state.InQuoted = ⊥
GoesOn state.AfterQuote = ⊥
GoesOn state.InEscape = ⊥
GoesOn state.InComment = ⊥
GoesOn state.AfterCr = ⊥

-- the bytes of a plain text, one by one
plain-first : (c : ℕ) (xs : List ℕ) → IsPlain (c ∷ xs) → ((c == 34) ≡ false) × ((c == 13) ≡ false) × IsPlain xs
plain-first c xs plain =
    let odd = or-left (is_quote_or_return c) (list_any is_quote_or_return xs) plain in (
      or-left (c == 34) (c == 13) odd,
      or-right (c == 34) (c == 13) odd,
      or-right (is_quote_or_return c) (list_any is_quote_or_return xs) plain,
    )

module _ (more : List ℕ) where
  ends_alone : (s : State) (fields : Record) (field xs : List ℕ) → GoesOn s → IsPlain xs
      → ReadsAlone s fields field (line xs) more
  unfolding next_record
  ends_alone state.StartRecord fields field xs goes plain = absurd goes
  ends_alone state.InQuoted fields field xs goes plain = absurd goes
  ends_alone state.AfterQuote fields field xs goes plain = absurd goes
  ends_alone state.InEscape fields field xs goes plain = absurd goes
  ends_alone state.InComment fields field xs goes plain = absurd goes
  ends_alone state.AfterCr fields field xs goes plain = absurd goes
  ends_alone state.StartField fields field [] goes plain = (fields ++ field ∷ [], [], refl, refl, inl refl)
  ends_alone state.InField fields field [] goes plain = (fields ++ field ∷ [], [], refl, refl, inl refl)
  ends_alone state.StartField fields field (c ∷ xs) goes plain =
      let (quote, return, others) = plain-first c xs plain in
      elim (cases_Bool (c == 44)) [
        | inl comma ↦ rw (quote, comma) (ends_alone state.StartField (fields ++ field ∷ []) [] xs tt others)
        | inr no_comma ↦ elim (cases_Bool (c == 10)) [
          | inl feed ↦ rw (quote, no_comma, return, feed)
              (fields ++ field ∷ [], line xs, refl, refl, inr (xs, refl, others))
          | inr no_feed ↦ rw (quote, no_comma, return, no_feed)
              (ends_alone state.InField fields (field ++ c ∷ []) xs tt others)
        ]
      ]
  ends_alone state.InField fields field (c ∷ xs) goes plain =
      let (quote, return, others) = plain-first c xs plain in
      elim (cases_Bool (c == 44)) [
        | inl comma ↦ rw comma (ends_alone state.StartField (fields ++ field ∷ []) [] xs tt others)
        | inr no_comma ↦ elim (cases_Bool (c == 10)) [
          | inl feed ↦ rw (no_comma, return, feed)
              (fields ++ field ∷ [], line xs, refl, refl, inr (xs, refl, others))
          | inr no_feed ↦ rw (no_comma, return, no_feed)
              (ends_alone state.InField fields (field ++ c ∷ []) xs tt others)
        ]
      ]

  reads_alone : (xs : List ℕ) → IsPlain xs → HasNoRecord (line xs) more ⊎ ReadsAlone state.StartRecord [] [] (line xs) more
  unfolding next_record
  reads_alone [] plain = inl (refl, refl)
  reads_alone (c ∷ xs) plain =
      let (quote, return, others) = plain-first c xs plain in
      elim (cases_Bool (c == 10)) [
        | inl feed ↦ rw (return, feed) (reads_alone xs others)
        | inr no_feed ↦ elim (cases_Bool (c == 44)) [
          | inl comma ↦ rw (quote, return, no_feed, comma)
              (inr (ends_alone state.StartField ([] ∷ []) [] xs tt others))
          | inr no_comma ↦ rw (quote, return, no_feed, no_comma)
              (inr (ends_alone state.InField [] (c ∷ []) xs tt others))
        ]
      ]

-- texts whose next records are the same have the same records
records_after-same : (xs ys : List ℕ)
    → next_record default_config state.StartRecord [] [] xs ≡ next_record default_config state.StartRecord [] [] ys
    → records_after state.StartRecord xs ≡ records_after state.StartRecord ys
records_after-same xs ys same = by (next_record default_config state.StartRecord [] [] ys) refl
  where
    by : (o : Option Read) → next_record default_config state.StartRecord [] [] ys ≡ o
        → records_after state.StartRecord xs ≡ records_after state.StartRecord ys
    by None e =
        records_after-None state.StartRecord xs (same ∙ e) ∙ sym (records_after-None state.StartRecord ys e)
    by (Some p) e =
        records_after-Some state.StartRecord xs p (same ∙ e) ∙ sym (records_after-Some state.StartRecord ys p e)

-- what stands behind a record of a line is shorter than the line
length-rest : (xs : List ℕ) (read : Record) (rest : List ℕ)
    → next_record default_config state.StartRecord [] [] (line xs) ≡ Some (read, state.StartRecord, rest)
    → length rest ≤ length xs
length-rest [] read rest e = next_record-shorter default_config state.StartRecord [] [] 10 [] (read, state.StartRecord, rest) e
length-rest (c ∷ xs) read rest e =
    let shorter = next_record-shorter default_config state.StartRecord [] [] c (line xs) (read, state.StartRecord, rest) e in
    omega (arith, length-append xs (10 ∷ []))

-- by the number of bytes before the last line feed
records_after-line_append : (n : ℕ) (xs more : List ℕ) → length xs < n → IsPlain xs
    → records_after state.StartRecord (line xs ++ more)
    ≡ records_after state.StartRecord (line xs) ++ records_after state.StartRecord more
records_after-line_append zero xs more low plain = absurd (omega arith)
records_after-line_append (suc n) xs more low plain =
    elim (reads_alone more xs plain) [
      | inl (none, same) ↦
          rw (records_after-None state.StartRecord (line xs) none) (records_after-same (line xs ++ more) more same)
      | inr (read, rest, alone, both, is_rest) ↦
          let first = records_after-Some state.StartRecord (line xs) (read, state.StartRecord, rest) alone in
          let whole = records_after-Some state.StartRecord (line xs ++ more) (read, state.StartRecord, rest ++ more) both in
          let behind : records_after state.StartRecord (rest ++ more)
          ≡ records_after state.StartRecord rest ++ records_after state.StartRecord more =
          elim is_rest [
            | inl none ↦ rw (none, records_after-nothing [] refl) refl
            | inr (front, is, plain_front) ↦
                let size = length-rest xs read rest alone in
                let longer : length rest ≡ length front + 1 = ap length is ∙ length-append front (10 ∷ []) in
                rw is (records_after-line_append n front more (omega arith) plain_front)
          ] in
          whole ∙ ap (λ (rs : List Record). read ∷ rs) behind ∙ ap (λ (rs : List Record). rs ++ records_after state.StartRecord more) (sym first)
    ]

-- the records of a plain text that ends a line, and of what stands behind it
pub records_after-append : (text more : List ℕ) → IsPlain text → EndsLine text
    → records_after state.StartRecord (text ++ more)
    ≡ records_after state.StartRecord text ++ records_after state.StartRecord more
records_after-append text more plain (inl none) = rw (none, records_after-nothing [] refl) refl
records_after-append text more plain (inr (front, is)) =
    let parts : (list_any is_quote_or_return front || list_any is_quote_or_return (10 ∷ [])) ≡ false =
    sym (list_any-append is_quote_or_return front (10 ∷ [])) ∙ rw is at plain in
    rw is (records_after-line_append (length front + 1) front more (omega arith) (or-left _ _ parts))
