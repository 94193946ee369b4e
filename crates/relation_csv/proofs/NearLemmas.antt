-- Where no byte near by means something, none of the bytes before one of them does.
use Rattle.std.proofs.Common.{◌≡◌, ◌≢◌, ◌∙◌, ℕ, zero, suc, ◌<◌, ◌≤◌, Bool, true, false, true≢false, Option, Some, None, is_some, IfSome, List, [], ◌∷◌, length, get_or, take, refl, ap, arith}
use Rattle.std.specs.List.{list_any}
use Rattle.std.proofs.lemmas.Bool.{ne_eqb}
use Rattle.std.proofs.lemmas.List.{get_or-take, length-take-le}
use Rattle.csv.specs.Writing.{default_writer, needs_byte}
use Rattle.memchr.specs.Find.{IsFirstByte, Nowhere, Passes, is_byte2}

-- no byte at the front passes a test that each of them fails
pub list_any-none : (test : ℕ → Bool) (xs : List ℕ) (n : ℕ) → n ≤ length xs → ((k : ℕ) → k < n → test (get_or xs k 0) ≡ false)
    → list_any test (take n xs) ≡ false
list_any-none test xs zero few fails = refl
list_any-none test [] (suc n) few fails = refl
list_any-none test (x ∷ xs) (suc n) few fails =
    rw (fails 0 (omega arith), list_any-none test xs n (omega arith) (λ k low. fails (suc k) (omega arith))) refl

-- a byte that is neither of these two and neither of those two means nothing
plain_byte : (b : ℕ) → is_byte2 34 13 b ≢ true → is_byte2 44 10 b ≢ true → needs_byte default_writer b ≡ false
plain_byte b odd end =
    rw (
      ne_eqb b 44 (λ e. end (rw e refl)),
      ne_eqb b 34 (λ e. odd (rw e refl)),
      ne_eqb b 13 (λ e. odd (rw e refl)),
      ne_eqb b 10 (λ e. end (rw e refl)),
    ) refl

pub plain_before : (bytes near : List ℕ) (n end : ℕ) → near ≡ take n bytes → end < n → end ≤ length bytes
    → Nowhere (Passes (is_byte2 34 13) near) 0 n → Nowhere (Passes (is_byte2 44 10) near) 0 end
    → list_any (needs_byte default_writer) (take end bytes) ≡ false
plain_before bytes near n end is low few odd ends =
    list_any-none (needs_byte default_writer) bytes end few (λ k inside. let same = get_or-take n bytes k 0 (omega (arith, inside, low)) in
    rw (← same, ← is) (plain_byte (get_or near k 0) (odd k (omega arith) (omega (arith, inside, low))) (ends k (omega arith) inside)))

-- the first end near by, where nothing odd is
pub near_end-plain : (bytes near : List ℕ) (n : ℕ) (odd end : Option ℕ) → near ≡ take n bytes → n ≤ length bytes
    → IsFirstByte (is_byte2 34 13) near odd → is_some odd ≡ false → IsFirstByte (is_byte2 44 10) near end
    → IfSome end (λ e. list_any (needs_byte default_writer) (take e bytes) ≡ false)
near_end-plain bytes near n (Some o) end is few odds none ends = absurd (true≢false none)
near_end-plain bytes near n None None is few odds none ends = tt
near_end-plain bytes near n None (Some e) is few odds none ends =
    let size : length near ≡ n = ap length is ∙ length-take-le n bytes few in
    let low : e < n = omega (arith, ends.0.high, size) in
    plain_before bytes near n e is low (omega (arith, low, few)) (λ k from below. odds k from (omega (arith, below, size)))
    ends.0.before

pub near_end-bound : (bytes near : List ℕ) (n : ℕ) (end : Option ℕ) → near ≡ take n bytes → n ≤ length bytes
    → IsFirstByte (is_byte2 44 10) near end → IfSome end (λ e. e ≤ length bytes)
near_end-bound bytes near n None is few ends = tt
near_end-bound bytes near n (Some e) is few ends =
    let size : length near ≡ n = ap length is ∙ length-take-le n bytes few in
    omega (arith, ends.0.high, size, few)
