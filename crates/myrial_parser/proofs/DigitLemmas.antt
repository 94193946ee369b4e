-- Digits are text, and `parse` reads them.
use Rattle.std.proofs.Common.{◌≡◌, ℕ, ◌<◌, ◌^◌, true, List, length, arith}
use Rattle.std.specs.Prelude.{Result, Ok, Err}
use Rattle.std.specs.Result.{OkIff}
use Rattle.std.specs.Str.{all_ascii_digits, IsUtf8}
use Rattle.std.specs.Str.Parse.{digits_value, ParsesUnsigned}
use Rattle.std.proofs.lemmas.Str.{IsUtf8-from_ascii}
use Rattle.std.proofs.lemmas.Str.Parse.{numerals_by_value, tells_all_ascii_digits, parse_digits}
use Rattle.myrial_lexer.proofs.DigitLemmas.{digits-IsAscii}

-- digits are text
pub digits-IsUtf8 : (digits : List ℕ) → all_ascii_digits digits ≡ true → IsUtf8 digits
digits-IsUtf8 digits e = IsUtf8-from_ascii digits (digits-IsAscii digits e)

-- digits of a number that fits are read
pub digits-parse : {E : Type 0} (digits : List ℕ) (r : Result ℕ E) → ParsesUnsigned 64 10 digits r → all_ascii_digits digits ≡ true → 0 < length digits → digits_value 10 digits < 2 ^ 63
    → OkIff r ((0 < length digits) × (digits_value 10 digits < 2 ^ 64)) (digits_value 10 digits)
digits-parse digits r h e some small = parse_digits (numerals_by_value _ tells_all_ascii_digits) 64 digits r h e

-- so they aren't refused
pub digits-unrefused : {E : Type 0} (digits : List ℕ) (r : Result ℕ E) (fault : E) → ParsesUnsigned 64 10 digits r → all_ascii_digits digits ≡ true → 0 < length digits → digits_value 10 digits < 2 ^ 63
    → r ≡ Err fault → ⊥
digits-unrefused {E = E} digits r fault h e some small is = by r (digits-parse digits r h e some small) is
  where
    by : (r : Result ℕ E) → OkIff r ((0 < length digits) × (digits_value 10 digits < 2 ^ 64)) (digits_value 10 digits) → r ≡ Err fault → ⊥
    by (Ok n) k is = cc
    by (Err f) k is = k (some, omega arith)
