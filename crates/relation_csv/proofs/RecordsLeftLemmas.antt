-- A record that the csv crate finds is the first of the records left, and where it finds none no record is left.
use Rattle.std.proofs.Common.{◌≡◌, ℕ, zero, suc, ◌+◌, ◌<◌, ◌≤◌, Bool, true, false, Option, Some, None, IsSome, List, [], ◌∷◌, length, drop, refl, sym, ap, ◌∙◌, arith}
use Rattle.std.proofs.Math.Seq.{drop-nil}
use Rattle.std.proofs.lemmas.Str.{IsUtf8-from_is_utf8, is_utf8-from_IsUtf8}
use Rattle.std.specs.Borrow.{Bor}
use Rattle.std.specs.Option.{option_map_or}
use Rattle.std.specs.Str.{is_utf8}
use Rattle.csv.specs.Machine.{Read, ends_at_end, field_after, fields_after, is_end, next_record, step}
use Rattle.csv.specs.Reading.{ExplainsRead, NextIs, ReadRecord, ReadsNext, TookRecord, default_config, pending_of, records_from, records_next, source_of}
use Rattle.csv.specs.Records.{AllText}
use Rattle.csv.specs.declared.parser.Config.{Config}
use Rattle.csv.specs.declared.parser.State.{State}
use Rattle.csv.specs.declared.parser.State.TheVariants as st
use Rattle.csv.specs.declared.reader.Reader.{Reader}
use Rattle.csv.specs.declared.error.ErrorKind.TheVariants as kind
use Rattle.relation_csv.specs.Files.{Record, is_text}
use Rattle.relation_csv.specs.inner.RecordsLeft.{IsSteady, StartsWithNoText, bytes_in, records_after, records_left}

-- what follows a record is shorter than what it was read from, if that had a byte
pub next_record-shorter : (cfg : Config) (s : State) (fields : List (List ℕ)) (field : List ℕ) (c : ℕ) (rest : List ℕ)
    (p : Read)
    → next_record cfg s fields field (c ∷ rest) ≡ Some p → length p.2 ≤ length rest
unfolding next_record
next_record-shorter cfg s fields field c [] p e = by (is_end (step cfg s c).1) (ends_at_end (step cfg s c).0) refl refl
  where
    by : (b d : Bool) → is_end (step cfg s c).1 ≡ b → ends_at_end (step cfg s c).0 ≡ d → length p.2 ≤ 0
    by true d end last = let q = rw end at e in let h : [] ≡ p.2 = cc in omega (arith, ap length h)
    by false true end last = let q = rw (end, last) at e in let h : [] ≡ p.2 = cc in omega (arith, ap length h)
    by false false end last = let q = rw (end, last) at e in cc
next_record-shorter cfg s fields field c (d ∷ rest) p e = by (is_end (step cfg s c).1) refl
    (next_record-shorter cfg (step cfg s c).0 (fields_after (step cfg s c).1 fields field)
    (field_after (step cfg s c).1 c field) d rest p)
  where
    by : (b : Bool) → is_end (step cfg s c).1 ≡ b
        → (next_record cfg (step cfg s c).0 (fields_after (step cfg s c).1 fields field)
        (field_after (step cfg s c).1 c field) (d ∷ rest) ≡ Some p → length p.2 ≤ length rest)
        → length p.2 ≤ suc (length rest)
    by true end more = let q = rw end at e in let h : d ∷ rest ≡ p.2 = cc in omega (arith, ap length h)
    by false end more = let h = more (rw end at e) in omega arith

-- a record that the end of the text ends leaves no byte, and a record may start there
next_record-at_end : (cfg : Config) (s : State) (p : Read) → next_record cfg s [] [] [] ≡ Some p
    → (st.StartRecord ≡ p.1) × ([] ≡ p.2)
unfolding next_record
next_record-at_end cfg s p e = by (ends_at_end s) refl
  where
    by : (b : Bool) → ends_at_end s ≡ b → (st.StartRecord ≡ p.1) × ([] ≡ p.2)
    by true last = let q = rw last at e in (cc, cc)
    by false last = let q = rw last at e in cc

-- there is no record after the last byte
records_from-at_end : (cfg : Config) (n : ℕ) → records_from cfg n st.StartRecord [] ≡ []
unfolding records_from next_record
records_from-at_end cfg zero = refl
records_from-at_end cfg (suc n) = refl

-- as many turns as there are bytes, and one more, find all records
records_from-enough : (cfg : Config) (n m : ℕ) (s : State) (xs : List ℕ) → length xs < n → length xs < m
    → records_from cfg n s xs ≡ records_from cfg m s xs
unfolding records_from
records_from-enough cfg zero m s xs a b = absurd (omega arith)
records_from-enough cfg (suc n) zero s xs a b = absurd (omega arith)
records_from-enough cfg (suc n) (suc m) s [] a b = by (next_record cfg s [] [] []) refl
  where
    by : (o : Option Read) → next_record cfg s [] [] [] ≡ o
        → records_next (records_from cfg n) o ≡ records_next (records_from cfg m) o
    by None e = refl
    by (Some p) e =
        let (start, gone) = next_record-at_end cfg s p e in
        rw (← start, ← gone, records_from-at_end, records_from-at_end) refl
records_from-enough cfg (suc n) (suc m) s (c ∷ rest) a b = by (next_record cfg s [] [] (c ∷ rest)) refl
    (records_from-enough cfg n m)
  where
    by : (o : Option Read) → next_record cfg s [] [] (c ∷ rest) ≡ o
        → ((t : State) (ys : List ℕ) → length ys < n → length ys < m → records_from cfg n t ys ≡ records_from cfg m t ys)
        → records_next (records_from cfg n) o ≡ records_next (records_from cfg m) o
    by None e more = refl
    by (Some p) e more =
        let shorter = next_record-shorter cfg s [] [] c rest p e in
        ap (λ rs. p.0 ∷ rs) (more p.1 p.2 (omega arith) (omega arith))

-- where a record follows, it is the first of those that follow
pub records_after-Some : (s : State) (xs : List ℕ) (p : Read) → next_record default_config s [] [] xs ≡ Some p
    → records_after s xs ≡ p.0 ∷ records_after p.1 p.2
unfolding records_from
records_after-Some s [] p e =
    let (start, gone) = next_record-at_end default_config s p e in
    rw e (rw (← start, ← gone) (ap (λ rs. p.0 ∷ rs) (sym (records_from-at_end default_config 1))))
records_after-Some s (c ∷ rest) p e =
    let one : length (c ∷ rest) + 1 ≡ suc (length (c ∷ rest)) = omega arith in
    let shorter = next_record-shorter default_config s [] [] c rest p e in
    rw (one, e) (ap (λ rs. p.0 ∷ rs) (records_from-enough default_config (length (c ∷ rest)) (length p.2 + 1) p.1 p.2
    (omega arith) (omega arith)))

-- where none follows, there is none
pub records_after-None : (s : State) (xs : List ℕ) → next_record default_config s [] [] xs ≡ None
    → records_after s xs ≡ []
unfolding records_from
records_after-None s xs e = let one : length xs + 1 ≡ suc (length xs) = omega arith in rw (one, e) refl

-- a read that found a record
read-found : (s s2 : State) (xs : List ℕ) (known : Option (List ℕ)) (fields : Record)
    → ReadsNext default_config s (Some xs) known true fields s2
    → (ys : List ℕ) × (known ≡ Some ys) × (records_after s xs ≡ fields ∷ records_after s2 ys)
read-found s s2 xs None fields r = absurd r
read-found s s2 xs (Some ys) fields r = (ys, refl, by (next_record default_config s [] [] xs) refl r)
  where
    by : (o : Option Read) → next_record default_config s [] [] xs ≡ o → NextIs o true fields s2 ys
        → records_after s xs ≡ fields ∷ records_after s2 ys
    by None e n = cc n
    by (Some p) e n = let (found, first, state, left) = n in rw (first, state, left) (records_after-Some s xs p e)

-- a read that found none
read-none : (s s2 : State) (xs : List ℕ) (known : Option (List ℕ)) (fields : Record)
    → ReadsNext default_config s (Some xs) known false fields s2
    → records_after s xs ≡ []
read-none s s2 xs None fields r = absurd r
read-none s s2 xs (Some ys) fields r = by (next_record default_config s [] [] xs) refl r
  where
    by : (o : Option Read) → next_record default_config s [] [] xs ≡ o → NextIs o false fields s2 ys
        → records_after s xs ≡ []
    by None e n = records_after-None s xs e
    by (Some p) e n = cc n.0

-- a steady reader that finds a record gives the first of the records that it had left
pub records_left-found : (old new : Reader (Bor (List ℕ))) (fields : Record) → IsSteady old
    → ReadRecord bytes_in old new true fields
    → records_left old ≡ fields ∷ records_left new
unfolding records_left
records_left-found old new fields steady r = by (source_of bytes_in old) refl steady.source_known
  where
    by : (o : Option (List ℕ)) → source_of bytes_in old ≡ o → IsSome o
        → option_map_or (records_after old.state) (source_of bytes_in old) [] ≡ fields ∷ option_map_or
        (records_after new.state) (source_of bytes_in new) []
    by None e some = cc
    by (Some xs) e some =
        let (ys, known, next) = read-found old.state new.state xs (pending_of (bytes_in new.rdr) new) fields
        (rw (steady.config, e) at r.0) in
        rw (e, r.1, known) next

-- a steady reader that finds none had none left
pub records_left-none : (old new : Reader (Bor (List ℕ))) (fields : Record) → IsSteady old
    → ReadRecord bytes_in old new false fields
    → records_left old ≡ []
unfolding records_left
records_left-none old new fields steady r = by (source_of bytes_in old) refl steady.source_known
  where
    by : (o : Option (List ℕ)) → source_of bytes_in old ≡ o → IsSome o
        → option_map_or (records_after old.state) (source_of bytes_in old) [] ≡ []
    by None e some = cc
    by (Some xs) e some =
        rw e (read-none old.state new.state xs (pending_of (bytes_in new.rdr) new) fields (rw (steady.config, e) at r.0))

-- a steady reader that took a record had it left first
records_left-took : (old new : Reader (Bor (List ℕ))) (fields : Record) → IsSteady old
    → TookRecord bytes_in old new fields
    → (rest : List Record) × (records_left old ≡ fields ∷ rest)
unfolding records_left
records_left-took old new fields steady r = by (source_of bytes_in old) refl steady.source_known
  where
    by : (o : Option (List ℕ)) → source_of bytes_in old ≡ o → IsSome o
        → (rest : List Record) × (option_map_or (records_after old.state) (source_of bytes_in old) [] ≡ fields ∷ rest)
    by None e some = cc
    by (Some xs) e some =
        let (ys, known, next) = read-found old.state new.state xs (pending_of (bytes_in new.rdr) new) fields
        (rw (steady.config, e) at r) in
        (records_after new.state ys, ap (λ o. option_map_or (records_after old.state) o []) e ∙ next)

-- the csv crate's word for text is this crate's
pub is_text-AllText : (fields : Record) → AllText fields → is_text fields ≡ true
unfolding AllText
is_text-AllText [] t = refl
is_text-AllText (f ∷ fs) t = rw (is_utf8-from_IsUtf8 f t.0) (is_text-AllText fs t.1)

AllText-is_text : (fields : Record) → is_text fields ≡ true → AllText fields
unfolding AllText
AllText-is_text [] t = tt
AllText-is_text (f ∷ fs) t = by (is_utf8 f) refl (AllText-is_text fs)
  where
    by : (b : Bool) → is_utf8 f ≡ b → (is_text fs ≡ true → AllText fs) → AllText (f ∷ fs)
    by true e more = (IsUtf8-from_is_utf8 f e, more (rw e at t))
    by false e more = let q = rw e at t in cc

is_text-not : (fields : Record) → (AllText fields → ⊥) → is_text fields ≡ false
is_text-not fields not_text = by (is_text fields) refl
  where
    by : (b : Bool) → is_text fields ≡ b → b ≡ false
    by true e = absurd (not_text (AllText-is_text fields e))
    by false e = refl

-- an error that tells of text that is not UTF-8 tells of a next record that is not text
pub records_left-not_text : (old new : Reader (Bor (List ℕ))) (pos : _) (err : _) → IsSteady old
    → ExplainsRead bytes_in old new true (kind.Utf8 pos err)
    → StartsWithNoText (records_left old)
records_left-not_text old new pos err steady x =
    let (reads_text, fields, took, not_text) = x in
    let (rest, left) = records_left-took old new fields steady took in
    (fields, rest, left, is_text-not fields not_text)

-- one record passed over, and then others
pub drop-records_left : (n m : ℕ) (old new : Reader (Bor (List ℕ))) (fields : Record) → m ≡ n + 1 → IsSteady old
    → ReadRecord bytes_in old new true fields
    → drop m (records_left old) ≡ drop n (records_left new)
drop-records_left n m old new fields more steady r =
    let one : m ≡ suc n = omega arith in
    rw (records_left-found old new fields steady r, one) refl

-- nothing is left where the reader finds nothing
pub drop-records_left-none : (n : ℕ) (old new : Reader (Bor (List ℕ))) (fields : Record) → IsSteady old
    → ReadRecord bytes_in old new false fields
    → drop n (records_left old) ≡ []
drop-records_left-none n old new fields steady r = rw (records_left-none old new fields steady r) (drop-nil n)
