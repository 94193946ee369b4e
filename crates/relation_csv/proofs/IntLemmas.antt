-- std's `parse` of a number reads what `int_of_field` says.
use Rattle.std.proofs.Common.{◌≡◌, ℕ, zero, suc, ◌^◌, ◌<◌, ◌≤◌, ℤ, pos, neg_ℤ, Bool, true, false, cond, not, eqb, ltb, ◌&&◌, Some, None, Result, Ok, Err, List, [], ◌∷◌, length, refl, ap, arith, w64}
use Rattle.std.specs.Bool.{Decides}
use Rattle.std.specs.Result.{OkIff, result_ok}
use Rattle.std.specs.Str.{all_ascii_digits}
use Rattle.std.specs.Str.Parse.{ParsesSigned, digits_value}
use Rattle.std.proofs.lemmas.Bool.{eqb-false, eqb-true}
use Rattle.std.proofs.lemmas.Bool.Decides.{Decides-and, Decides-like, Decides-ltb, Decides-not, Decides-eqb}
use Rattle.std.proofs.lemmas.Str.Parse.{parse_signed_minus, parse_signed_plain, parse_signed_plus}
use Rattle.relation_csv.proofs.DecimalLemmas.{numerals}
use Rattle.relation_csv.specs.Fields.{int_of_field, is_numeral, signed_number}
use Rattle.rel_base.specs.Values.{in_64_bits}

-- what stands under a condition stands under a test that decides it
result_ok-OkIff : {E : Type 0} (r : Result ℤ E) (P : Type 0) (n : ℤ) (test : Bool) → OkIff r P n → Decides test P
    → result_ok r ≡ cond test (Some n) None
result_ok-OkIff (Ok x) P n true h d = ap Some h.1
result_ok-OkIff (Ok x) P n false h d = let yes = d.1 h.0 in cc
result_ok-OkIff (Err e) P n true h d = absurd (h (d.0 refl))
result_ok-OkIff (Err e) P n false h d = refl

Decides-is_numeral : (ds : List ℕ) → Decides (is_numeral ds) ((0 < length ds) × (all_ascii_digits ds ≡ true))
Decides-is_numeral ds =
    Decides-and (not (eqb (length ds) 0)) (all_ascii_digits ds)
    (Decides-like (not (eqb (length ds) 0)) (λ n. omega arith) (λ h e. omega arith)
    (Decides-not (eqb (length ds) 0) (Decides-eqb (length ds) 0)))
    (λ e. e, λ e. e)

-- digits behind a sign
signed_number-OkIff : {E : Type 0} (r : Result ℤ E) (sign : ℕ → ℤ) (ds : List ℕ) (Within : Type 0)
    → Decides (in_64_bits (sign (digits_value 10 ds))) Within
    → OkIff r ((all_ascii_digits ds ≡ true) × (0 < length ds) × Within) (sign (digits_value 10 ds))
    → result_ok r ≡ signed_number sign ds
signed_number-OkIff r sign ds Within d h =
    result_ok-OkIff r _ (sign (digits_value 10 ds)) (is_numeral ds && in_64_bits (sign (digits_value 10 ds))) h
    (Decides-like (is_numeral ds && in_64_bits (sign (digits_value 10 ds))) (λ p. (p.0.1, p.0.0, p.1))
    (λ p. ((p.1, p.0), p.2))
    (Decides-and (is_numeral ds) (in_64_bits (sign (digits_value 10 ds))) (Decides-is_numeral ds) d))

Decides-fits_pos : (n : ℕ) → Decides (in_64_bits (pos n)) (n < 2 ^ 63)
Decides-fits_pos n = Decides-ltb n (2 ^ 63)

Decides-fits_neg : (n : ℕ) → Decides (in_64_bits (neg_ℤ (pos n))) (n ≤ 2 ^ 63)
Decides-fits_neg zero = (λ e. omega arith, λ h. refl)
Decides-fits_neg (suc n) = Decides-like (ltb n (2 ^ 63)) (λ h. omega arith) (λ h. omega arith) (Decides-ltb n (2 ^ 63))

-- the number that `parse` answers
pub int_of_field-ParsesSigned : {E : Type 0} (bs : List ℕ) (r : Result ℤ E) → ParsesSigned w64 10 bs r
    → result_ok r ≡ int_of_field bs
int_of_field-ParsesSigned [] r h =
    signed_number-OkIff r pos [] _ (Decides-fits_pos _)
    (parse_signed_plain numerals w64 [] r h (λ e. omega arith) (λ e. omega arith))
int_of_field-ParsesSigned (b ∷ rest) r h = by (eqb b 45) (eqb b 43) refl refl
  where
    by : (minus plus : Bool) → eqb b 45 ≡ minus → eqb b 43 ≡ plus
        → result_ok r ≡ cond (eqb b 45) (signed_number (λ n. neg_ℤ (pos n)) rest)
        (cond (eqb b 43) (signed_number pos rest) (signed_number pos (b ∷ rest)))
    by true plus m p =
        rw m (signed_number-OkIff r (λ n. neg_ℤ (pos n)) rest _ (Decides-fits_neg _)
        (parse_signed_minus numerals w64 (b ∷ rest) r h (eqb-true b 45 m)))
    by false true m p =
        rw (m, p) (signed_number-OkIff r pos rest _ (Decides-fits_pos _)
        (parse_signed_plus numerals w64 (b ∷ rest) r h (eqb-true b 43 p)))
    by false false m p =
        rw (m, p) (signed_number-OkIff r pos (b ∷ rest) _ (Decides-fits_pos _)
        (parse_signed_plain numerals w64 (b ∷ rest) r h (eqb-false b 43 p) (eqb-false b 45 m)))
