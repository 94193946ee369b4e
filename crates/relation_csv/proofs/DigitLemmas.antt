-- Digits read one by one, and the number of a field that has nothing else.
use Rattle.std.proofs.Common.{◌≡◌, ℕ, ◌+◌, ◌-◌, ◌*◌, ◌^◌, ◌<◌, ◌≤◌, pos, true, false, Some, List, [], ◌∷◌, ◌++◌, length, refl, sym, arith, FitsSigned, w64}
use Rattle.std.specs.List.{list_any}
use Rattle.csv.specs.Writing.{default_writer, needs_byte}
use Rattle.std.specs.Char.{digit_value}
use Rattle.std.specs.Int.{IsInRange}
use Rattle.std.specs.Str.{all_ascii_digits}
use Rattle.std.specs.Str.Parse.{digits_value, digits_value_after}
use Rattle.std.proofs.lemmas.Bool.{lt-ltb, ne_eqb}
use Rattle.std.proofs.lemmas.Str.{digit_value_digit}
use Rattle.std.proofs.lemmas.Str.Parse.{digits_value_short, tells_all_ascii_digits}
use Rattle.relation_csv.proofs.DecimalLemmas.{numerals}
use Rattle.relation_csv.specs.Fields.{int_of_field}

-- the bytes are digits, and this is their number
pub record AreDigitsOf (bytes : List ℕ) (number : ℕ) : Type 0 where
  pub digits : all_ascii_digits bytes ≡ true
  pub is_number : number ≡ digits_value 10 bytes

pub AreDigitsOf-none : AreDigitsOf [] 0
AreDigitsOf-none = record { digits = refl; is_number = refl }

all_ascii_digits-push : (bytes : List ℕ) (c : ℕ) → all_ascii_digits bytes ≡ true → IsInRange 48 57 c
    → all_ascii_digits (bytes ++ c ∷ []) ≡ true
all_ascii_digits-push [] c all digit = tells_all_ascii_digits.more c [] digit refl
all_ascii_digits-push (b ∷ bytes) c all digit =
    let parts = tells_all_ascii_digits.parts b bytes all in
    tells_all_ascii_digits.more b (bytes ++ c ∷ []) parts.0 (all_ascii_digits-push bytes c parts.1 digit)

digits_value-push : (n : ℕ) (bytes : List ℕ) (c : ℕ) → IsInRange 48 57 c
    → digits_value_after 10 n (bytes ++ c ∷ []) ≡ 10 * digits_value_after 10 n bytes + (c - 48)
digits_value-push n [] c digit = omega (arith, digit_value_digit c digit)
digits_value-push n (b ∷ bytes) c digit = digits_value-push (n * 10 + digit_value b) bytes c digit

-- a digit more
pub AreDigitsOf-push : (bytes : List ℕ) (number c : ℕ) → AreDigitsOf bytes number → IsInRange 48 57 c
    → AreDigitsOf (bytes ++ c ∷ []) (10 * number + (c - 48))
AreDigitsOf-push bytes number c are digit = record {
  digits = all_ascii_digits-push bytes c are.digits digit;
  is_number = rw are.is_number (sym (digits_value-push 0 bytes c digit));
}

-- digits mean nothing in a file
digit-plain : (c : ℕ) → IsInRange 48 57 c → needs_byte default_writer c ≡ false
digit-plain c digit =
    rw (
      ne_eqb c 44 (λ e. omega arith),
      ne_eqb c 34 (λ e. omega arith),
      ne_eqb c 13 (λ e. omega arith),
      ne_eqb c 10 (λ e. omega arith),
    ) refl

pub digits-plain : (bytes : List ℕ) → all_ascii_digits bytes ≡ true → list_any (needs_byte default_writer) bytes ≡ false
digits-plain [] all = refl
digits-plain (c ∷ rest) all =
    let parts = tells_all_ascii_digits.parts c rest all in
    rw (digit-plain c parts.0, digits-plain rest parts.1) refl

-- a number of so few digits fits in 64 bits
pub fits_signed : (n : ℕ) → n < 10 ^ 18 → FitsSigned w64 (pos n)
fits_signed n small = record { sfits = omega arith }

-- a number of so few digits, and one digit more
pub one_digit_more : (n c : ℕ) → n < 10 ^ 17 → IsInRange 48 57 c → 10 * n + (c - 48) < 2 ^ 63
one_digit_more n c small digit = omega arith

-- few digits have a small number
pub AreDigitsOf-small : (bytes : List ℕ) (number k : ℕ) → AreDigitsOf bytes number → length bytes ≤ k → number < 10 ^ k
AreDigitsOf-small bytes number k are few =
    rw are.is_number (digits_value_short numerals bytes k are.digits few)

-- a field of up to 18 digits writes their number
pub int_of_field-digits : (bytes : List ℕ) (number : ℕ) → AreDigitsOf bytes number → 0 < length bytes → length bytes ≤ 18
    → int_of_field bytes ≡ Some (pos number)
int_of_field-digits [] number are some few = absurd (omega arith)
int_of_field-digits (c ∷ rest) number are some few =
    let first = (tells_all_ascii_digits.parts c rest are.digits).0 in
    let small : digits_value 10 (c ∷ rest) < 2 ^ 63 =
    omega (arith, digits_value_short numerals (c ∷ rest) 18 are.digits few) in
    rw (
      ne_eqb c 45 (λ e. omega arith),
      ne_eqb c 43 (λ e. omega arith),
      ne_eqb (length (c ∷ rest)) 0 (λ e. omega arith),
      are.digits,
      lt-ltb _ _ small,
      are.is_number,
    ) refl
