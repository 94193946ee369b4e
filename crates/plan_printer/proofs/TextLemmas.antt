-- Texts that are added one after another.
use Rattle.std.proofs.Common.{◌≡◌, ◌∙◌, ℕ, ◌+◌, List, [], ◌∷◌, ◌++◌, map, ap, arith, append_assoc, append-nil}
use Rattle.std.specs.List.{range_with_len}
use Rattle.std.proofs.lemmas.List.Concat.{flat_map-append}
use Rattle.std.proofs.lemmas.List.FromFn.{map-range_with_len_more}
use Rattle.rel_base.specs.Picks.{joined}

pub two_in_turn : (old one two : List ℕ) {a b : List ℕ} → a ≡ old ++ one → b ≡ a ++ two → b ≡ old ++ (one ++ two)
two_in_turn old one two first second = rw (second, first, append_assoc old one two)

pub title_in_turn : (old lead number space words end : List ℕ) {a b c : List ℕ} → a ≡ old ++ (lead ++ (number ++ space)) → b ≡ a ++ words → c ≡ b ++ end
    → c ≡ old ++ (lead ++ (number ++ (space ++ (words ++ end))))
title_in_turn old lead number space words end first second third =
    rw (third, second, first, append_assoc (old ++ (lead ++ (number ++ space))) words end, append_assoc old (lead ++ (number ++ space)) (words ++ end), append_assoc lead (number ++ space) (words ++ end), append_assoc number space (words ++ end))

pub four_in_turn : (old one two three four : List ℕ) {a b c d : List ℕ} → a ≡ old ++ one → b ≡ a ++ two → c ≡ b ++ three → d ≡ c ++ four
    → d ≡ old ++ (one ++ (two ++ (three ++ four)))
four_in_turn old one two three four first second third fourth =
    rw (fourth, third, second, first, append_assoc ((old ++ one) ++ two) three four, append_assoc (old ++ one) two (three ++ four), append_assoc old one (two ++ (three ++ four)))

-- the texts of so many numbers, and of the next one
texts_more : (f : ℕ → List ℕ) (n : ℕ) → joined (map f (range_with_len 0 (n + 1))) ≡ joined (map f (range_with_len 0 n)) ++ f n
texts_more f n =
    ap joined (map-range_with_len_more f 0 n n (omega arith))
    ∙ flat_map-append (λ (text : List ℕ). text) (map f (range_with_len 0 n)) (f n ∷ [])
    ∙ ap (λ more. joined (map f (range_with_len 0 n)) ++ more) (append-nil (f n))

pub next_text : (f : ℕ → List ℕ) (n : ℕ) (old : List ℕ) {a b : List ℕ} → a ≡ old ++ joined (map f (range_with_len 0 n)) → b ≡ a ++ f n
    → b ≡ old ++ joined (map f (range_with_len 0 (n + 1)))
next_text f n old so_far next = rw (next, so_far, texts_more f n, append_assoc old (joined (map f (range_with_len 0 n))) (f n))
