-- Strings whose first seven bytes have one key compare as what follows these does.
use Rattle.std.proofs.Common.{◌≡◌, ℕ, zero, suc, ◌+◌, ◌*◌, ◌<◌, ◌≤◌, List, [], ◌∷◌, drop, refl, ap, ◌∙◌, sym, All, arith}
use Rattle.std.specs.Cmp.{nat_cmp_is}
use Rattle.std.specs.Ordering.{ordering_then}
use Rattle.std.specs.declared.cmp.Ordering.TheVariants.{Equal}
use Rattle.std.proofs.lemmas.Nat.{mul-le, same_from_place}
use Rattle.rel_base.specs.SortKeys.{span, key_of, IsKeyOf}
use Rattle.rel_base.proofs.SortKeyLemmas.{two_le_span, key_of_below}
use Rattle.word_table.specs.Words.{text_order}

same_front : (n : ℕ) (s t : List ℕ) → All (λ byte. byte < 256) s → All (λ byte. byte < 256) t → key_of n s ≡ key_of n t → text_order s t ≡ text_order (drop n s) (drop n t)
unfolding key_of
same_front zero s t _ _ e = refl
same_front (suc n) [] [] _ _ e = refl
same_front (suc n) [] (y ∷ ys) _ _ e =
    let two : 2 ≤ span n = two_le_span n in
    let most : 1 * span n ≤ (y + 1) * span n = mul-le 1 (span n) (y + 1) (span n) (omega arith) (omega arith) in
    absurd (omega arith)
same_front (suc n) (x ∷ xs) [] _ _ e =
    let two : 2 ≤ span n = two_le_span n in
    let most : 1 * span n ≤ (x + 1) * span n = mul-le 1 (span n) (x + 1) (span n) (omega arith) (omega arith) in
    absurd (omega arith)
same_front (suc n) (x ∷ xs) (y ∷ ys) bytes others e =
    let tail_bytes : All (λ byte. byte < 256) xs = λ k d below. bytes (suc k) d (omega arith) in
    let other_bytes : All (λ byte. byte < 256) ys = λ k d below. others (suc k) d (omega arith) in
    let parts : (x + 1 ≡ y + 1) × (key_of n xs ≡ key_of n ys) = same_from_place (x + 1) (key_of n xs) (y + 1) (key_of n ys) (span n) (key_of_below n xs tail_bytes) (key_of_below n ys other_bytes) e in
    let same : x ≡ y = omega (arith, parts.0) in
    ap (λ o. ordering_then o (text_order xs ys)) (sym (nat_cmp_is x y Equal same)) ∙ same_front n xs ys tail_bytes other_bytes parts.1

-- strings of one key compare as their bytes from the eighth on
pub behind_keys : (s t : List ℕ) (key other : ℕ) → IsKeyOf s key → IsKeyOf t other → key ≡ other → text_order s t ≡ text_order (drop 7 s) (drop 7 t)
behind_keys s t key other is are same = same_front 7 s t is.bytes are.bytes (sym is.is_key ∙ same ∙ are.is_key)
