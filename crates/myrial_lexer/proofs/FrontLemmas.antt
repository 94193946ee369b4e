-- What stands at the front of a text ends between two characters, and is such as its kind has.
use Rattle.std.proofs.Common.{◌≡◌, ◌≢◌, ℕ, zero, suc, ◌+◌, ◌-◌, ◌<◌, ◌≤◌, Bool, true, false, cond, List, [], ◌∷◌, length, take, drop, get_or, refl, ap, subst, add-one, add_comm, arith}
use Rattle.std.specs.Prelude.{◌&&◌, ◌||◌, not, ◌==◌, nat_lt, nat_eq, pos, slice_index, if◌then◌else◌, Some}
use Rattle.std.specs.Char.{is_ascii_digit}
use Rattle.std.specs.List.{prefix_len, find, starts_with}
use Rattle.std.specs.Str.{IsUtf8, IsAscii, IsCharBoundary}
use Rattle.std.specs.Str.Parse.{digits_value}
use Rattle.std.proofs.lemmas.Bool.Decides.{nat_tests}
use Rattle.std.proofs.lemmas.List.{get_or-take, length-take-le}
use Rattle.std.proofs.lemmas.List.Sums.{prefix_len-le-length, prefix_len_stops}
use Rattle.std.proofs.lemmas.Str.{IsUtf8-from_ascii, IsUtf8-between, IsUtf8-take, IsCharBoundary-from_take, IsCharBoundary-after_ascii, IsCharBoundary-before_ascii}
use Rattle.std.proofs.lemmas.Str.Ascii.{IsAscii-nil, IsAscii-cons}
use Rattle.rel_base.specs.Values.{in_64_bits}
use Rattle.myrial_lexer.specs.declared.faults.LexWhat.TheVariants.{OpenString, NumberTooLarge}
use Rattle.myrial_lexer.specs.declared.front.Front.{Front}
use Rattle.myrial_lexer.specs.declared.front.Front.TheVariants.{Gap, Piece, Fault}
use Rattle.myrial_lexer.specs.declared.front.Run.TheVariants as run
use Rattle.myrial_lexer.specs.declared.kinds.Sign.{Sign}
use Rattle.myrial_lexer.specs.declared.kinds.TokenKind.TheVariants.{Word, Int, Str}
use Rattle.myrial_lexer.specs.Tokens.{is_blank, is_letter, is_quote, goes_on, run_len, number, string, signs, piece_of, sign, front_of}
use Rattle.myrial_lexer.specs.Slices.{IsString, IsOfKind}
use Rattle.myrial_lexer.proofs.DigitLemmas.{digit_small, digits-take}

-- so many bytes at the front of a text, one or more, end between two characters
pub record Ends (text : List ℕ) (size : ℕ) : Type 0 where
  pub some : 1 ≤ size
  pub within : size ≤ length text
  pub boundary : IsCharBoundary text size

-- a blank, a comment and a token at the front end between two characters, and the token is such as its kind has
abbrev pub IsFrontOf : List ℕ → Front → Type 0
IsFrontOf text (Gap size) = Ends text size
IsFrontOf text (Piece kind size) = Ends text size × IsOfKind kind (take size text)
IsFrontOf text (Fault what) = Unit {0}

-- ---- bytes that go on with each other

some_byte : (text : List ℕ) (k : ℕ) → slice_index text k ≢ 0 → k < length text
some_byte [] k h = absurd (h refl)
some_byte (b ∷ text) zero h = omega arith
some_byte (b ∷ text) (suc k) h = let inner : k < length text = some_byte text k h in omega arith

pub run-IsAscii : (p : ℕ → Bool) → ((b : ℕ) → p b ≡ true → b < 128) → (text : List ℕ) → IsAscii (take (prefix_len p text) text)
run-IsAscii p small [] = IsAscii-nil
run-IsAscii p small (b ∷ text) = by (p b) refl (run-IsAscii p small text)
  where
    by : (t : Bool) → p b ≡ t → IsAscii (take (prefix_len p text) text) → IsAscii (take (cond t (1 + prefix_len p text) 0) (b ∷ text))
    by true e rest = rw (add_comm 1, add-one) (IsAscii-cons b (take (prefix_len p text) text) (small b e) rest)
    by false e rest = IsAscii-nil

run_some : (p : ℕ → Bool) (text : List ℕ) → 0 < length text → p (slice_index text 0) ≡ true → 1 ≤ prefix_len p text
run_some p [] some e = absurd (omega arith)
run_some p (b ∷ text) some e = let passes : p b ≡ true = e in rw passes (omega arith)

ascii_run-Ends : (p : ℕ → Bool) → ((b : ℕ) → p b ≡ true → b < 128) → (text : List ℕ) → IsUtf8 text → 0 < length text → p (slice_index text 0) ≡ true → Ends text (prefix_len p text)
ascii_run-Ends p small text u some e =
    let len = prefix_len p text in
    let within = prefix_len-le-length p text in
    record {
      some = run_some p text some e;
      within = within;
      boundary = IsCharBoundary-from_take text len u within (IsUtf8-from_ascii (take len text) (run-IsAscii p small text));
    }

small_letter : (b : ℕ) → is_letter b ≡ true → b < 128
small_letter b e = grind (arith, nat_tests)

small_word : (b : ℕ) → (is_letter b || is_ascii_digit b) ≡ true → b < 128
small_word b e = by (is_letter b) refl e
  where
    by : (t : Bool) → is_letter b ≡ t → (t || is_ascii_digit b) ≡ true → b < 128
    by true l e = small_letter b l
    by false l e = digit_small b e

small_quote : (b : ℕ) → is_quote b ≡ true → (0 < b) × (b < 128)
small_quote b e = by (b == 34) refl e
  where
    by : (t : Bool) → (b == 34) ≡ t → (t || b == 39) ≡ true → (0 < b) × (b < 128)
    by true l e = (grind (arith, nat_tests), grind (arith, nat_tests))
    by false l e = (grind (arith, nat_tests), grind (arith, nat_tests))

small_blank : (b : ℕ) → is_blank b ≡ true → b < 128
small_blank b e = grind (arith, nat_tests)

-- ---- a comment

comment-Ends : (text : List ℕ) → 0 < length text → slice_index text 0 ≡ 45 → Ends text (run_len run.Line text)
comment-Ends text some e =
    let p = goes_on run.Line in
    let len = prefix_len p text in
    let within = prefix_len-le-length p text in
    let passes : p (slice_index text 0) ≡ true = ap p e in
    record {
      some = run_some p text some passes;
      within = within;
      boundary = (within, λ inside high. absurd (let stops : not (get_or text len 0 == 10) ≡ false = prefix_len_stops p text 0 inside in line_end (get_or text len 0) stops high));
    }
  where
    line_end : (b : ℕ) → not (b == 10) ≡ false → 128 ≤ b → ⊥
    line_end b stops high = grind (arith, nat_tests)

-- ---- a number

number-IsFrontOf : (text : List ℕ) → IsUtf8 text → 0 < length text → is_ascii_digit (slice_index text 0) ≡ true → IsFrontOf text (number text)
number-IsFrontOf text u some e = by (in_64_bits (pos (digits_value 10 digits))) refl
  where
    ends : Ends text (run_len run.Digits text)
    ends = ascii_run-Ends (goes_on run.Digits) digit_small text u some e

    digits : List ℕ
    digits = take (run_len run.Digits text) text

    by : (t : Bool) → in_64_bits (pos (digits_value 10 (take (run_len run.Digits text) text))) ≡ t
        → IsFrontOf text (if t then Piece Int (run_len run.Digits text) else Fault NumberTooLarge)
    by true small =
        let len = length-take-le (run_len run.Digits text) text ends.within in
        let some = ends.some in
        (ends, record { some = omega arith; digits = digits-take text; small = grind (arith, nat_tests) })
    by false small = tt

-- ---- a string

quoted-IsString : (s : List ℕ) → IsUtf8 s → 2 ≤ length s → get_or s 0 0 < 128 → get_or s (length s - 1) 0 < 128 → IsString s
quoted-IsString s u two first last = record {
  quotes = two;
  is_text = IsUtf8-between s 1 (length s - 1) u (omega arith) (IsCharBoundary-after_ascii s 0 u (omega arith) first) (IsCharBoundary-before_ascii s (length s - 1) (omega arith) last);
}

-- between two bytes of the same quote
string-between : (text : List ℕ) (len : ℕ) → IsUtf8 text → is_quote (slice_index text 0) ≡ true → slice_index text (len + 1) ≡ slice_index text 0
    → IsFrontOf text (Piece Str (len + 2))
string-between text len u q same =
    let small = small_quote (slice_index text 0) q in
    let there : slice_index text (len + 1) ≢ 0 = λ none. absurd (omega (arith, small.0)) in
    let inside = some_byte text (len + 1) there in
    let last : slice_index text (len + 1) < 128 = omega (arith, small.1) in
    let first : slice_index text 0 < 128 = small.1 in
    let step : len + 1 + 1 ≡ len + 2 = omega arith in
    let boundary = subst (IsCharBoundary text) step (IsCharBoundary-after_ascii text (len + 1) u inside last) in
    let size = length-take-le (len + 2) text (omega arith) in
    let before : length (take (len + 2) text) - 1 ≡ len + 1 = omega arith in
    let first_same = get_or-take (len + 2) text 0 0 (omega arith) in
    let last_same = get_or-take (len + 2) text (len + 1) 0 (omega arith) in (
      record { some = omega arith; within = omega arith; boundary = boundary },
      quoted-IsString (take (len + 2) text) (IsUtf8-take text (len + 2) u boundary) (omega arith) (omega arith)
          (rw before (omega arith)),
    )

string-IsFrontOf : (text : List ℕ) → IsUtf8 text → 0 < length text → is_quote (slice_index text 0) ≡ true → IsFrontOf text (string text)
string-IsFrontOf text u some e = by (slice_index text (len + 1) == quote) refl
  where
    quote : ℕ
    quote = slice_index text 0

    len : ℕ
    len = run_len (run.Inside (slice_index text 0)) (drop 1 text)

    by : (t : Bool) → (slice_index text (run_len (run.Inside (slice_index text 0)) (drop 1 text) + 1) == slice_index text 0) ≡ t
        → IsFrontOf text (if t then Piece Str (run_len (run.Inside (slice_index text 0)) (drop 1 text) + 2) else Fault OpenString)
    by true same = string-between text (run_len (run.Inside (slice_index text 0)) (drop 1 text)) u e (grind (arith, nat_tests))
    by false same = tt

-- ---- a sign

-- one or two ASCII bytes, none of them 0
abbrev short_ascii : List ℕ → Bool
short_ascii (x ∷ []) = nat_lt 0 x && nat_lt x 128
short_ascii (x ∷ y ∷ []) = nat_lt 0 x && nat_lt x 128 && nat_lt 0 y && nat_lt y 128
short_ascii _ = false

-- each sign is short
abbrev AllShort : List (List ℕ × Sign) → Type 0
AllShort [] = Unit {0}
AllShort (s ∷ ss) = (short_ascii s.0 ≡ true) × AllShort ss

signs-AllShort : AllShort signs
signs-AllShort = (refl, (refl, (refl, (refl, (refl, (refl, (refl, (refl, (refl, (refl, (refl, (refl, (refl, (refl, (refl, (refl, (refl, (refl, (refl, (refl, tt))))))))))))))))))))

sign-Ends : (bytes text : List ℕ) → IsUtf8 text → 0 < length text → short_ascii bytes ≡ true
    → starts_with nat_eq (slice_index text 0 ∷ slice_index text 1 ∷ []) bytes ≡ true → Ends text (length bytes)
sign-Ends [] text u some short starts = cc
sign-Ends (x ∷ []) text u some short starts =
    let same : slice_index text 0 ≡ x = grind (arith, nat_tests) in
    let small : x < 128 = grind (arith, nat_tests) in
    record { some = omega arith; within = omega arith; boundary = IsCharBoundary-after_ascii text 0 u some (omega arith) }
sign-Ends (x ∷ y ∷ []) text u some short starts =
    let same : slice_index text 1 ≡ y = grind (arith, nat_tests) in
    let low : 0 < y = grind (arith, nat_tests) in
    let small : y < 128 = grind (arith, nat_tests) in
    let inside = some_byte text 1 (λ none. absurd (omega arith)) in
    record { some = omega arith; within = omega arith; boundary = IsCharBoundary-after_ascii text 1 u inside (omega arith) }
sign-Ends (x ∷ y ∷ z ∷ bytes) text u some short starts = cc

signs-IsFrontOf : (ss : List (List ℕ × Sign)) (text : List ℕ) → AllShort ss → IsUtf8 text → 0 < length text
    → IsFrontOf text (piece_of (find (λ s. starts_with nat_eq (slice_index text 0 ∷ slice_index text 1 ∷ []) s.0) ss))
signs-IsFrontOf [] text short u some = tt
signs-IsFrontOf (s ∷ ss) text short u some = by (starts_with nat_eq (slice_index text 0 ∷ slice_index text 1 ∷ []) s.0) refl (signs-IsFrontOf ss text short.1 u some)
  where
    by : (t : Bool) → starts_with nat_eq (slice_index text 0 ∷ slice_index text 1 ∷ []) s.0 ≡ t
        → IsFrontOf text (piece_of (find (λ (x : List ℕ × Sign). starts_with nat_eq (slice_index text 0 ∷ slice_index text 1 ∷ []) x.0) ss))
        → IsFrontOf text (piece_of (cond t (Some s) (find (λ (x : List ℕ × Sign). starts_with nat_eq (slice_index text 0 ∷ slice_index text 1 ∷ []) x.0) ss)))
    by true e others = (sign-Ends s.0 text u some short.0 e, tt)
    by false e others = others

-- ---- whatever stands at the front

pub front-IsFrontOf : (text : List ℕ) → IsUtf8 text → 0 < length text → IsFrontOf text (front_of text)
front-IsFrontOf text u some = by_blank (is_blank (slice_index text 0)) refl
  where
    by_quote : (t : Bool) → is_quote (slice_index text 0) ≡ t → IsFrontOf text (if t then string text else sign (slice_index text 0) (slice_index text 1))
    by_quote true e = string-IsFrontOf text u some e
    by_quote false e = signs-IsFrontOf signs text signs-AllShort u some

    by_digit : (t : Bool) → is_ascii_digit (slice_index text 0) ≡ t
        → IsFrontOf text (if t then number text else (if is_quote (slice_index text 0) then string text else sign (slice_index text 0) (slice_index text 1)))
    by_digit true e = number-IsFrontOf text u some e
    by_digit false e = by_quote (is_quote (slice_index text 0)) refl

    by_letter : (t : Bool) → is_letter (slice_index text 0) ≡ t
        → IsFrontOf text (if t then Piece Word (run_len run.Word text)
        else (if is_ascii_digit (slice_index text 0) then number text else (if is_quote (slice_index text 0) then string text else sign (slice_index text 0) (slice_index text 1))))
    by_letter true e = (ascii_run-Ends (goes_on run.Word) small_word text u some (ap (λ t. t || is_ascii_digit (slice_index text 0)) e), tt)
    by_letter false e = by_digit (is_ascii_digit (slice_index text 0)) refl

    by_comment : (t : Bool) → (slice_index text 0 == 45 && slice_index text 1 == 45) ≡ t
        → IsFrontOf text (if t then Gap (run_len run.Line text)
        else (if is_letter (slice_index text 0) then Piece Word (run_len run.Word text)
        else (if is_ascii_digit (slice_index text 0) then number text else (if is_quote (slice_index text 0) then string text else sign (slice_index text 0) (slice_index text 1)))))
    by_comment true e = let minus : slice_index text 0 ≡ 45 = grind (arith, nat_tests) in comment-Ends text some minus
    by_comment false e = by_letter (is_letter (slice_index text 0)) refl

    by_blank : (t : Bool) → is_blank (slice_index text 0) ≡ t
        → IsFrontOf text (if t then Gap 1
        else (if slice_index text 0 == 45 && slice_index text 1 == 45 then Gap (run_len run.Line text)
        else (if is_letter (slice_index text 0) then Piece Word (run_len run.Word text)
        else (if is_ascii_digit (slice_index text 0) then number text else (if is_quote (slice_index text 0) then string text else sign (slice_index text 0) (slice_index text 1))))))
    by_blank true e =
        let small : slice_index text 0 < 128 = small_blank (slice_index text 0) e in
        record { some = omega arith; within = omega arith; boundary = IsCharBoundary-after_ascii text 0 u some small }
    by_blank false e = by_comment (slice_index text 0 == 45 && slice_index text 1 == 45) refl
