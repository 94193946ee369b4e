-- Keys of strings: they are below `span`, and they compare as the strings do.
use Rattle.std.proofs.Common.{◌≡◌, ℕ, zero, suc, ◌+◌, ◌*◌, ◌^◌, ◌%◌, ◌<◌, ◌≤◌, List, [], ◌∷◌, length, get_or, drop, refl, ap, ◌∙◌, sym, subst, All, arith, Fits, w8, ⊎_elim}
use Rattle.std.specs.declared.cmp.Ordering.TheVariants.{Less, Equal, Greater}
use Rattle.std.specs.Cmp.{nat_cmp_is}
use Rattle.std.specs.Ordering.{ordering_then, ordering_reverse, nat_cmp}
use Rattle.std.proofs.lemmas.List.{get_or_default}
use Rattle.std.proofs.lemmas.Bool.{cases_lt}
use Rattle.std.proofs.lemmas.Cmp.{tied_itself, nat_list_cmp_total}
use Rattle.std.proofs.lemmas.Nat.{mul-le, same_from_place}
use Rattle.rel_base.specs.SortKeys.{span, key_of, sort_key, IsKeyOf, IsDigitAt}
use Rattle.std.specs.Cmp.Lexicographic.{slice_cmp}

-- there are at least two keys
pub two_le_span : (n : ℕ) → 2 ≤ span n
unfolding span
two_le_span zero = omega arith
two_le_span (suc n) = let below : 2 ≤ span n = two_le_span n in omega arith

-- the key of a string that has ended
pub key_of-nil : (n : ℕ) → key_of n [] ≡ 0
unfolding key_of
key_of-nil zero = refl
key_of-nil (suc n) = refl

-- the key of what is left is its first digit and the key of the rest
pub key_of-drop : (s : List ℕ) (i n digit : ℕ) → IsDigitAt s i digit → key_of (suc n) (drop i s) ≡ digit * span n + key_of n (drop (suc i) s)
unfolding span key_of
key_of-drop [] zero n digit is = let none : key_of n [] ≡ 0 = key_of-nil n in rw (is, none) (omega arith)
key_of-drop [] (suc i) n digit is = let none : key_of n [] ≡ 0 = key_of-nil n in rw (is, none) (omega arith)
key_of-drop (x ∷ xs) zero n digit is = rw is refl
key_of-drop (x ∷ xs) (suc i) n digit is = key_of-drop xs i n digit is

-- the same at the digits so far: one more digit
pub digits_more : (s : List ℕ) (i n digit key whole : ℕ) → IsDigitAt s i digit → key * span (suc n) + key_of (suc n) (drop i s) ≡ whole → (key * 257 + digit) * span n + key_of n (drop (i + 1) s) ≡ whole
unfolding span
digits_more s i n digit key whole is so_far =
    let first : key_of (suc n) (drop i s) ≡ digit * span n + key_of n (drop (suc i) s) = key_of-drop s i n digit is in
    let next : i + 1 ≡ suc i = omega arith in
    rw next (grind (arith, first, so_far))

-- keys are below the number of keys
pub key_of_below : (n : ℕ) (s : List ℕ) → All (λ byte. byte < 256) s → key_of n s < span n
unfolding span key_of
key_of_below zero [] bytes = omega arith
key_of_below zero (x ∷ xs) bytes = omega arith
key_of_below (suc n) [] bytes = let two : 2 ≤ span n = two_le_span n in omega arith
key_of_below (suc n) (x ∷ xs) bytes =
    let first : x < 256 = bytes 0 0 (omega arith) in
    let rest : key_of n xs < span n = key_of_below n xs (λ k d h. bytes (suc k) d (omega arith)) in
    let most : (x + 1) * span n ≤ 256 * span n = mul-le (x + 1) (span n) 256 (span n) (omega arith) (omega arith) in
    omega arith

-- with a digit to come, there is room for it
pub room_for_digit : (s : List ℕ) (n key rest : ℕ) → All (λ byte. byte < 256) s → key * span (suc n) + rest ≡ sort_key s → key * 257 + 256 < 2 ^ 64
unfolding span
room_for_digit s n key rest bytes so_far =
    let whole : sort_key s < span 7 = key_of_below 7 s bytes in
    let two : 2 ≤ span n = two_le_span n in
    let least : key * (257 * 2) ≤ key * span (suc n) = mul-le key (257 * 2) key (span (suc n)) (omega arith) (omega arith) in
    omega arith

-- and at last for whether more bytes follow
pub room_for_last : (s : List ℕ) (key rest : ℕ) → All (λ byte. byte < 256) s → key * span 0 + rest ≡ sort_key s → key * 2 + 1 < 2 ^ 63
unfolding span
room_for_last s key rest bytes so_far =
    let whole : sort_key s < span 7 = key_of_below 7 s bytes in
    omega arith

-- the last digit of a key
pub key_of-zero_long : (s : List ℕ) (i : ℕ) → i < length s → key_of 0 (drop i s) ≡ 1
unfolding key_of
key_of-zero_long [] i h = absurd (omega arith)
key_of-zero_long (x ∷ xs) zero h = refl
key_of-zero_long (x ∷ xs) (suc i) h = key_of-zero_long xs i (omega arith)

pub key_of-zero_short : (s : List ℕ) (i : ℕ) → length s ≤ i → key_of 0 (drop i s) ≡ 0
unfolding key_of
key_of-zero_short [] zero h = refl
key_of-zero_short [] (suc i) h = refl
key_of-zero_short (x ∷ xs) zero h = absurd (omega arith)
key_of-zero_short (x ∷ xs) (suc i) h = key_of-zero_short xs i (omega arith)

pub span-zero : span 0 ≡ 2
unfolding span
span-zero = refl

-- what is known of the bytes of a slice
pub bytes_fit : (s : List ℕ) → ((i : ℕ) → Fits w8 (get_or s i 0)) → All (λ byte. byte < 256) s
bytes_fit s fits k d h =
    let byte : get_or s k 0 < 256 = omega (arith, fits k) in
    rw (get_or_default s k d 0 h) byte

-- the whole key
pub whole_key_long : (s : List ℕ) (key : ℕ) → 7 < length s → key * span 0 + key_of 0 (drop 7 s) ≡ sort_key s → key * 2 + 1 ≡ sort_key s
whole_key_long s key long so_far =
    let last : key_of 0 (drop 7 s) ≡ 1 = key_of-zero_long s 7 long in
    let two : span 0 ≡ 2 = span-zero in
    let digits : key * 2 + 1 ≡ sort_key s = rw (two, last) at so_far in
    digits

pub whole_key_short : (s : List ℕ) (key : ℕ) → length s ≤ 7 → key * span 0 + key_of 0 (drop 7 s) ≡ sort_key s → key * 2 ≡ sort_key s
whole_key_short s key short so_far =
    let last : key_of 0 (drop 7 s) ≡ 0 = key_of-zero_short s 7 short in
    let two : span 0 ≡ 2 = span-zero in
    let digits : key * 2 + 0 ≡ sort_key s = rw (two, last) at so_far in
    omega arith

-- where keys differ they compare as the strings do
pub key_of_less : (n : ℕ) (s t : List ℕ) → All (λ byte. byte < 256) s → All (λ byte. byte < 256) t → key_of n s < key_of n t → slice_cmp nat_cmp s t ≡ Less
unfolding key_of
key_of_less zero [] [] _ _ h = absurd (omega arith)
key_of_less zero [] (y ∷ ys) _ _ h = refl
key_of_less zero (x ∷ xs) [] _ _ h = absurd (omega arith)
key_of_less zero (x ∷ xs) (y ∷ ys) _ _ h = absurd (omega arith)
key_of_less (suc n) [] [] _ _ h = absurd (omega arith)
key_of_less (suc n) [] (y ∷ ys) _ _ h = refl
key_of_less (suc n) (x ∷ xs) [] _ _ h = absurd (omega arith)
key_of_less (suc n) (x ∷ xs) (y ∷ ys) bytes others h =
    let tail_bytes : All (λ byte. byte < 256) xs = λ k d below. bytes (suc k) d (omega arith) in
    let other_bytes : All (λ byte. byte < 256) ys = λ k d below. others (suc k) d (omega arith) in
    let low : key_of n xs < span n = key_of_below n xs tail_bytes in
    let high : key_of n ys < span n = key_of_below n ys other_bytes in
    ⊎_elim
    (λ (below : x < y). ap (λ o. ordering_then o (slice_cmp nat_cmp xs ys)) (sym (nat_cmp_is x y Less below)))
    (λ (above : y ≤ x). ⊎_elim
    (λ (over : y < x).
    let more : (y + 1 + 1) * span n ≤ (x + 1) * span n = mul-le (y + 1 + 1) (span n) (x + 1) (span n) (omega arith) (omega arith) in
    absurd (omega arith))
    (λ (level : x ≤ y).
    let same : x ≡ y = omega arith in
    let rest : key_of n xs < key_of n ys = omega (arith, ap (λ z. (z + 1) * span n) same) in
    ap (λ o. ordering_then o (slice_cmp nat_cmp xs ys)) (sym (nat_cmp_is x y Equal same)) ∙ key_of_less n xs ys tail_bytes other_bytes rest)
    (cases_lt y x))
    (cases_lt x y)

-- the number of keys is even
span_even : (n : ℕ) → (half : ℕ) × (span n ≡ 2 * half)
unfolding span
span_even zero = (1, refl)
span_even (suc n) = let half : ℕ = (span_even n).0 in let is : span n ≡ 2 * half = (span_even n).1 in (257 * half, omega arith)

-- a key is even where the string ends within its digits
pub even_short : (n : ℕ) (s : List ℕ) → key_of n s % 2 ≡ 0 → length s ≤ n
unfolding key_of
even_short zero [] e = omega arith
even_short zero (x ∷ xs) e = absurd (omega arith)
even_short (suc n) [] e = omega arith
even_short (suc n) (x ∷ xs) e =
    let half : ℕ = (span_even n).0 in
    let is : span n ≡ 2 * half = (span_even n).1 in
    let first : (x + 1) * span n ≡ 2 * ((x + 1) * half) = rw is (omega arith) in
    let rest : key_of n xs % 2 ≡ 0 = omega arith in
    let short : length xs ≤ n = even_short n xs rest in
    omega arith

-- strings that end within their digits are told by their keys
pub short_tied : (n : ℕ) (s t : List ℕ) → All (λ byte. byte < 256) s → All (λ byte. byte < 256) t → key_of n s ≡ key_of n t → length s ≤ n → length t ≤ n → s ≡ t
unfolding key_of
short_tied zero [] [] _ _ e p q = refl
short_tied zero [] (y ∷ ys) _ _ e p q = absurd (omega arith)
short_tied zero (x ∷ xs) t _ _ e p q = absurd (omega arith)
short_tied (suc n) [] [] _ _ e p q = refl
short_tied (suc n) [] (y ∷ ys) _ _ e p q =
    let two : 2 ≤ span n = two_le_span n in
    let most : 1 * span n ≤ (y + 1) * span n = mul-le 1 (span n) (y + 1) (span n) (omega arith) (omega arith) in
    absurd (omega arith)
short_tied (suc n) (x ∷ xs) [] _ _ e p q =
    let two : 2 ≤ span n = two_le_span n in
    let most : 1 * span n ≤ (x + 1) * span n = mul-le 1 (span n) (x + 1) (span n) (omega arith) (omega arith) in
    absurd (omega arith)
short_tied (suc n) (x ∷ xs) (y ∷ ys) bytes others e p q =
    let tail_bytes : All (λ byte. byte < 256) xs = λ k d below. bytes (suc k) d (omega arith) in
    let other_bytes : All (λ byte. byte < 256) ys = λ k d below. others (suc k) d (omega arith) in
    let parts : (x + 1 ≡ y + 1) × (key_of n xs ≡ key_of n ys) = same_from_place (x + 1) (key_of n xs) (y + 1) (key_of n ys) (span n) (key_of_below n xs tail_bytes) (key_of_below n ys other_bytes) e in
    let same : x ≡ y = omega (arith, parts.0) in
    let rest : xs ≡ ys = short_tied n xs ys tail_bytes other_bytes parts.1 (omega arith) (omega arith) in
    cc

-- the string with the lesser key is the lesser one
pub lesser_key : (s t : List ℕ) (key other : ℕ) → IsKeyOf s key → IsKeyOf t other → key < other → slice_cmp nat_cmp s t ≡ Less
lesser_key s t key other is are h =
    let below : sort_key s < sort_key t = omega (arith, is.is_key, are.is_key) in
    key_of_less 7 s t is.bytes are.bytes below

pub greater_key : (s t : List ℕ) (key other : ℕ) → IsKeyOf s key → IsKeyOf t other → other < key → slice_cmp nat_cmp s t ≡ Greater
greater_key s t key other is are h = nat_list_cmp_total.antisymm s t ∙ ap ordering_reverse (lesser_key t s other key are is h)

-- strings of one even key are equal
pub even_key : (s t : List ℕ) (key other : ℕ) → IsKeyOf s key → IsKeyOf t other → other ≤ key → key ≤ other → key % 2 ≡ 0 → slice_cmp nat_cmp s t ≡ Equal
even_key s t key other is are above below even =
    let level : key ≡ other = omega arith in
    let same : sort_key s ≡ sort_key t = sym is.is_key ∙ level ∙ are.is_key in
    let evens : sort_key s % 2 ≡ 0 = subst (λ k. k % 2 ≡ 0) is.is_key even in
    let other_evens : sort_key t % 2 ≡ 0 = subst (λ k. k % 2 ≡ 0) same evens in
    let equal : s ≡ t = short_tied 7 s t is.bytes are.bytes same (even_short 7 s evens) (even_short 7 t other_evens) in
    subst (λ u. slice_cmp nat_cmp s u ≡ Equal) equal (tied_itself nat_list_cmp_total s)
