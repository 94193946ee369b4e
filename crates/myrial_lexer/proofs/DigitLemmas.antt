-- Digits at the front of a text.
use Rattle.std.proofs.Common.{◌≡◌, ℕ, ◌+◌, ◌<◌, ◌^◌, Bool, true, false, cond, List, [], ◌∷◌, take, refl, add-one, add_comm, arith}
use Rattle.std.specs.Char.{is_ascii_digit}
use Rattle.std.specs.List.{prefix_len}
use Rattle.std.specs.Prelude.{◌&&◌, pos, Result, Ok, Err}
use Rattle.std.specs.Result.{is_ok, OkIff}
use Rattle.std.specs.Str.{all_ascii_digits, IsAscii}
use Rattle.std.proofs.lemmas.Bool.Decides.{nat_tests}
use Rattle.std.proofs.lemmas.Str.Ascii.{IsAscii-nil, IsAscii-cons}
use Rattle.rel_base.specs.Values.{in_64_bits}

both : (a b : Bool) → (a && b) ≡ true → (a ≡ true) × (b ≡ true)
both true true e = (refl, refl)
both true false e = cc
both false b e = cc

-- a digit is an ASCII byte
pub digit_small : (d : ℕ) → is_ascii_digit d ≡ true → d < 128
digit_small d e = grind (arith, nat_tests)

-- digits are ASCII
pub digits-IsAscii : (digits : List ℕ) → all_ascii_digits digits ≡ true → IsAscii digits
digits-IsAscii [] e = IsAscii-nil
digits-IsAscii (d ∷ ds) e =
    let parts = both (is_ascii_digit d) (all_ascii_digits ds) e in
    IsAscii-cons d ds (digit_small d parts.0) (digits-IsAscii ds parts.1)

-- the bytes in front of the first that is no digit are digits
pub digits-take : (text : List ℕ) → all_ascii_digits (take (prefix_len is_ascii_digit text) text) ≡ true
digits-take [] = refl
digits-take (b ∷ text) = by (is_ascii_digit b) refl (digits-take text)
  where
    by : (t : Bool) → is_ascii_digit b ≡ t → all_ascii_digits (take (prefix_len is_ascii_digit text) text) ≡ true → all_ascii_digits (take (cond t (1 + prefix_len is_ascii_digit text) 0) (b ∷ text)) ≡ true
    by true e rest = rw (add_comm 1, add-one) (λ i. e i && rest i)
    by false e rest = refl

-- an `Ok` exactly where a number fits says whether it does
pub is_ok-fits : {T E : Type 0} (r : Result T E) (n len : ℕ) (x : T) → OkIff r ((0 < len) × (n < 2 ^ 63)) x → 0 < len → is_ok r ≡ in_64_bits (pos n)
is_ok-fits (Ok y) n len x h some = let small = h.0.1 in grind (arith, nat_tests)
is_ok-fits (Err e) n len x h some = by (in_64_bits (pos n)) refl
  where
    by : (t : Bool) → in_64_bits (pos n) ≡ t → false ≡ t
    by true e = let small : n < 2 ^ 63 = grind (arith, nat_tests) in absurd (h (some, small))
    by false e = refl
