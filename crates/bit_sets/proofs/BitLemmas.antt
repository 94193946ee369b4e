-- Bits in words.
use Rattle.std.proofs.Common.{◌≡◌, ◌≢◌, ℕ, zero, suc, ◌*◌, ◌/◌, ◌%◌, ◌^◌, ◌<◌, ◌==◌, ◌||◌, Bool, true, false, cond, List, [], ◌∷◌, length, set, get_or, replicate, Option, Some, None, option_map, refl, sym, ap, ◌∙◌, arith, eqb-true, eq-eqb, ne_eqb}
use Rattle.std.specs.Prelude.{bit_or, bit_and, ltb, slice_get}
use Rattle.std.specs.Int.{bit_at, w64}
use Rattle.std.proofs.lemmas.Bool.{eqb-false, ltb-true, ltb-false}
use Rattle.std.proofs.lemmas.List.{length-replicate, get_or-replicate}
use Rattle.std.proofs.lemmas.Option.{slice_get-get_or, slice_get_past}
use Rattle.std.proofs.lemmas.Nat.Bits.{bit_at-zero, bit_at_set_same, bit_at_set_other, shr_and_one}

-- the bit of a place in words, if there is one
abbrev pub bit_in : List ℕ → ℕ → Option Bool
bit_in words place = option_map (λ word. bit_at word (place % 64) == 1) (slice_get words (place / 64))

-- ---- words

got-same : (xs : List ℕ) (i y : ℕ) → i < length xs → slice_get (set xs i y) i ≡ Some y
got-same [] i y l = absurd (omega (arith, l))
got-same (x ∷ xs) zero y l = refl
got-same (x ∷ xs) (suc i) y l = got-same xs i y (omega (arith, l))

got-other : (xs : List ℕ) (i j y : ℕ) → j ≢ i → slice_get (set xs i y) j ≡ slice_get xs j
got-other [] i j y h = refl
got-other (x ∷ xs) zero zero y h = absurd (h refl)
got-other (x ∷ xs) zero (suc j) y h = refl
got-other (x ∷ xs) (suc i) zero y h = refl
got-other (x ∷ xs) (suc i) (suc j) y h = got-other xs i j y (λ e. h (ap suc e))

-- ---- no bit

pub none-set : (words place : ℕ) → bit_in (replicate words 0) place ≡ cond (ltb place (64 * words)) (Some false) None
none-set words place = by (ltb place (64 * words)) refl
  where
    by : (b : Bool) → ltb place (64 * words) ≡ b → bit_in (replicate words 0) place ≡ cond b (Some false) None
    by true e =
        let low : place / 64 < words = omega (arith, ltb-true place (64 * words) e) in
        let there : place / 64 < length (replicate words 0) = omega (arith, low, length-replicate {A = ℕ} words 0) in
        ap (option_map (λ word. bit_at word (place % 64) == 1)) (slice_get-get_or (replicate words 0) (place / 64) 0 there ∙ ap (λ w. Some w) (get_or-replicate words (place / 64) 0 0 low))
        ∙ ap (λ n. Some (n == 1)) (bit_at-zero (place % 64))
    by false e =
        ap (option_map (λ word. bit_at word (place % 64) == 1))
        (slice_get_past (replicate words 0) (place / 64) (omega (arith, ltb-false place (64 * words) e, length-replicate {A = ℕ} words 0)))

-- ---- one bit more

or-same : (b : Bool) → b ≡ (b || false)
or-same true = refl
or-same false = refl

or-yes : (b : Bool) → true ≡ (b || true)
or-yes true = refl
or-yes false = refl

bit-more : (word shift : ℕ) → shift < 64 → (i : ℕ)
    → (bit_at (bit_or word (1 * 2 ^ shift % 2 ^ 64)) i == 1) ≡ ((bit_at word i == 1) || (i == shift))
bit-more word shift low i = by (i == shift) refl
  where
    by : (b : Bool) → (i == shift) ≡ b → (bit_at (bit_or word (1 * 2 ^ shift % 2 ^ 64)) i == 1) ≡ ((bit_at word i == 1) || b)
    by true e =
        let same : i ≡ shift = eqb-true i shift e in
        ap (λ n. n == 1) (ap (bit_at (bit_or word (1 * 2 ^ shift % 2 ^ 64))) same ∙ bit_at_set_same w64 word shift low) ∙ or-yes (bit_at word i == 1)
    by false e = ap (λ n. n == 1) (bit_at_set_other w64 word shift low i (eqb-false i shift e)) ∙ or-same (bit_at word i == 1)

pub bit-set : (words : List ℕ) (place d : ℕ) → place / 64 < length words → (k : ℕ)
    → bit_in (set words (place / 64) (bit_or (get_or words (place / 64) d) (1 * 2 ^ (place % 64) % 2 ^ 64))) k
    ≡ option_map (λ bit. bit || (k == place)) (bit_in words k)
bit-set words place d low k = by (k / 64 == place / 64) refl
  where
    more : ℕ
    more = bit_or (get_or words (place / 64) d) (1 * 2 ^ (place % 64) % 2 ^ 64)

    by : (b : Bool) → (k / 64 == place / 64) ≡ b → bit_in (set words (place / 64) more) k ≡ option_map (λ bit. bit || (k == place)) (bit_in words k)
    by true e =
        let same : k / 64 ≡ place / 64 = eqb-true (k / 64) (place / 64) e in
        let new : slice_get (set words (place / 64) more) (k / 64) ≡ Some more = ap (slice_get (set words (place / 64) more)) same ∙ got-same words (place / 64) more low in
        let old : slice_get words (k / 64) ≡ Some (get_or words (place / 64) d) = ap (slice_get words) same ∙ slice_get-get_or words (place / 64) d low in
        ap (option_map (λ word. bit_at word (k % 64) == 1)) new
        ∙ ap (λ b. Some b) (bit-more (get_or words (place / 64) d) (place % 64) (omega arith) (k % 64) ∙ ap (λ b. (bit_at (get_or words (place / 64) d) (k % 64) == 1) || b) (whole same))
        ∙ sym (ap (λ o. option_map (λ bit. bit || (k == place)) (option_map (λ word. bit_at word (k % 64) == 1) o)) old)
      where
        whole : k / 64 ≡ place / 64 → (k % 64 == place % 64) ≡ (k == place)
        whole same = also (k % 64 == place % 64) refl
          where
            also : (b : Bool) → (k % 64 == place % 64) ≡ b → b ≡ (k == place)
            also true e = let rest = eqb-true (k % 64) (place % 64) e in sym (eq-eqb k place (omega (arith, same, rest)))
            also false e = sym (ne_eqb k place (λ i. eqb-false (k % 64) (place % 64) e (ap (λ n. n % 64) i)))
    by false e =
        let other : k / 64 ≢ place / 64 = eqb-false (k / 64) (place / 64) e in
        ap (option_map (λ word. bit_at word (k % 64) == 1)) (got-other words (place / 64) (k / 64) more other)
        ∙ plain (slice_get words (k / 64))
      where
        apart : (k == place) ≡ false
        apart = ne_eqb k place (λ i. eqb-false (k / 64) (place / 64) e (ap (λ n. n / 64) i))

        plain : (o : Option ℕ) → option_map (λ word. bit_at word (k % 64) == 1) o
            ≡ option_map (λ bit. bit || (k == place)) (option_map (λ word. bit_at word (k % 64) == 1) o)
        plain None = refl
        plain (Some word) = ap (λ b. Some b) (or-same (bit_at word (k % 64) == 1) ∙ ap (λ b. (bit_at word (k % 64) == 1) || b) (sym apart))

-- ---- what is read

-- of a word
pub bit-is : (words : List ℕ) (place word : ℕ) → ltb (place / 64) (length words) ≡ true → word ≡ get_or words (place / 64) word
    → Some (bit_and (word / 2 ^ (place % 64)) 1 == 1) ≡ bit_in words place
bit-is words place word low at =
    ap (λ n. Some (n == 1)) (shr_and_one word (place % 64))
    ∙ sym (ap (option_map (λ w. bit_at w (place % 64) == 1)) (slice_get-get_or words (place / 64) word (ltb-true (place / 64) (length words) low) ∙ ap (λ w. Some w) (sym at)))

-- what has a bit has a word
pub bit-there : (words : List ℕ) (place : ℕ) (b : Bool) → bit_in words place ≡ Some b → place / 64 < length words
bit-there words place b is = by (ltb (place / 64) (length words)) refl
  where
    by : (t : Bool) → ltb (place / 64) (length words) ≡ t → place / 64 < length words
    by true e = ltb-true (place / 64) (length words) e
    by false e =
        let none = slice_get_past words (place / 64) (omega (arith, ltb-false (place / 64) (length words) e)) in
        absurd (grind (arith, sym (ap (option_map (λ word. bit_at word (place % 64) == 1)) none) ∙ is))
