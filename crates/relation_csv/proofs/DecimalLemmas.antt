-- The decimals of a number call for no quotes.
use Rattle.std.proofs.Common.{◌≡◌, ℕ, suc, true, false, ℤ, pos, negsuc, List, [], ◌∷◌, refl, arith}
use Rattle.std.specs.Fmt.{decimal, signed_decimal}
use Rattle.std.specs.List.{list_any}
use Rattle.std.specs.Prelude.{FitsSigned}
use Rattle.std.specs.Int.{IsInRange, w64}
use Rattle.std.specs.Str.{all_ascii_digits}
use Rattle.std.specs.Str.Parse.{digits_value}
use Rattle.std.proofs.lemmas.Bool.{ne_eqb}
use Rattle.std.proofs.lemmas.Fmt.{digits_decimal}
use Rattle.std.proofs.lemmas.Str.Parse.{IsNumeralModel, numerals_by_value, tells_all_ascii_digits}
use Rattle.csv.specs.Writing.{default_writer, field_text, needs_byte}

-- std's digits and their value
pub numerals : IsNumeralModel (λ ds. all_ascii_digits ds ≡ true) (digits_value 10)
numerals = numerals_by_value (λ ds. all_ascii_digits ds ≡ true) tells_all_ascii_digits

-- a digit means nothing else in a file
needs_byte-digit : (b : ℕ) → IsInRange 48 57 b → needs_byte default_writer b ≡ false
needs_byte-digit b r =
    rw (
      ne_eqb b 44 (λ e. omega arith),
      ne_eqb b 34 (λ e. omega arith),
      ne_eqb b 13 (λ e. omega arith),
      ne_eqb b 10 (λ e. omega arith),
    ) refl

needs_byte-digits : (ds : List ℕ) → all_ascii_digits ds ≡ true → list_any (needs_byte default_writer) ds ≡ false
needs_byte-digits [] all = refl
needs_byte-digits (d ∷ ds) all =
    let parts = tells_all_ascii_digits.parts d ds all in
    rw (needs_byte-digit d parts.0, needs_byte-digits ds parts.1) refl

needs_byte-signed : (z : ℤ) → FitsSigned w64 z → list_any (needs_byte default_writer) (signed_decimal z) ≡ false
needs_byte-signed (pos n) fits =
    let small = fits.sfits in
    needs_byte-digits (decimal n) (digits_decimal numerals n (omega arith))
needs_byte-signed (negsuc n) fits =
    let small = fits.sfits in
    needs_byte-digits (decimal (suc n)) (digits_decimal numerals (suc n) (omega arith))

-- so they are written as they are
pub field_text-signed : (z : ℤ) → FitsSigned w64 z → field_text default_writer (signed_decimal z) ≡ signed_decimal z
field_text-signed z fits = rw (needs_byte-signed z fits) refl
