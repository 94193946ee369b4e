-- std's `parse` of a number without a sign reads what `number_within` says.
use Rattle.std.proofs.Common.{◌≡◌, ℕ, zero, suc, ◌^◌, ◌<◌, true, false, cond, not, eqb, ltb, Some, None, Option, Result, Ok, Err, List, length, refl, ap, rules, arith}
use Rattle.std.specs.Char.{is_ascii_digit}
use Rattle.std.specs.List.{list_all}
use Rattle.std.specs.Result.{OkIff}
use Rattle.std.specs.Str.Parse.{ParsesUnsigned, digits_value}
use Rattle.std.proofs.lemmas.Bool.{and_parts, and_right, lt-ltb}
use Rattle.std.proofs.lemmas.Str.Parse.{IsNumeralModel, numerals_by_value, parse_digits}
use Rattle.command_words.specs.Texts.{is_numeral, lies_within, number_within}

numerals : IsNumeralModel (λ ds. list_all is_ascii_digit ds ≡ true) (digits_value 10)
numerals = numerals_by_value (λ ds. list_all is_ascii_digit ds ≡ true) (search rules)

-- what is left of a parsed number within the limits
abbrev pub parsed_within : {E : Type 0} → ℕ → ℕ → Result ℕ E → Option ℕ
parsed_within least most (Ok n) = cond (lies_within least most n) (Some n) None
parsed_within least most (Err e) = None

has-digit : (n : ℕ) → not (eqb n 0) ≡ true → 0 < n
has-digit zero e = cc
has-digit (suc n) e = omega arith

above : (most n : ℕ) → most < 2 ^ 64 → (n < 2 ^ 64 → ⊥) → most < n
above most n small large = omega arith

too-large : (least most n : ℕ) → most < n → lies_within least most n ≡ false
too-large least most n h = and_right (not (ltb n least)) (not (ltb most n)) (ap not (lt-ltb most n h))

of-parsed : {E : Type 0} (least most : ℕ) (text : List ℕ) (r : Result ℕ E) → 0 < length text → most < 2 ^ 64
    → OkIff r ((0 < length text) × (digits_value 10 text < 2 ^ 64)) (digits_value 10 text)
    → cond (lies_within least most (digits_value 10 text)) (Some (digits_value 10 text)) None ≡ parsed_within least most r
of-parsed least most text (Ok n) some small h = rw h.1 refl
of-parsed least most text (Err e) some small h =
    rw (too-large least most (digits_value 10 text) (above most (digits_value 10 text) small (λ x. h (some, x)))) refl

pub number-parsed : {E : Type 0} (least most : ℕ) (text : List ℕ) (r : Result ℕ E) → ParsesUnsigned 64 10 text r
    → is_numeral text ≡ true → most < 2 ^ 64 → number_within least most text ≡ parsed_within least most r
number-parsed least most text r h e small =
    let parts = and_parts (not (eqb (length text) 0)) (list_all is_ascii_digit text) e in
    rw e (of-parsed least most text r (has-digit (length text) parts.0) small (parse_digits numerals 64 text r h parts.1))
