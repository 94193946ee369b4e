-- Ranges of columns: the least and the greatest word as words are read one by one.
use Rattle.std.proofs.Common.{◌≡◌, ℕ, ◌<◌, ◌≤◌, List, [], ◌∷◌, ◌++◌, All, sym, subst, arith, inl, inr}
use Rattle.std.specs.Prelude.{Contains}
use Rattle.std.proofs.lemmas.Bool.{cases_lt}
use Rattle.std.proofs.lemmas.List.Elements.{All-push}

-- words between two numbers, and one more
pub between-more : (words : List ℕ) (least greatest word low high : ℕ) → All (λ w. (least ≤ w) × (w ≤ greatest)) words → low ≤ least → low ≤ word → greatest ≤ high → word ≤ high
    → All (λ w. (low ≤ w) × (w ≤ high)) (words ++ word ∷ [])
between-more words least greatest word low high all a b c e =
    All-push (λ w. (low ≤ w) × (w ≤ high)) words word
    (λ k d h. let own = all k d h in (omega (arith, own.0), omega (arith, own.1)))
    (b, e)

-- of a word that stands in a column and one that stood there so far, the one that is kept stands in it
pub kept-stands : (words : List ℕ) (place old word new : ℕ) → Contains words word → (0 < place → Contains words old) → (place ≡ 0 → new ≡ word) → (new < word → new ≡ old) → (word < new → new ≡ old) → Contains words new
kept-stands words place old word new own had first less more =
    elim (cases_lt 0 place) [
      | inl some ↦ elim (cases_lt new word) [
        | inl below ↦ subst (Contains words) (sym (less below)) (had some)
        | inr from ↦ elim (cases_lt word new) [
          | inl above ↦ subst (Contains words) (sym (more above)) (had some)
          | inr to ↦ let same : word ≡ new = omega arith in subst (Contains words) same own
        ]
      ]
      | inr none ↦ subst (Contains words) (sym (first (omega arith))) own
    ]
