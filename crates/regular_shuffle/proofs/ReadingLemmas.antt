-- What holds of items that were read, one by one.
use Rattle.std.proofs.Common.{◌≡◌, ℕ, ◌+◌, ◌<◌, ◌≤◌, List, [], ◌∷◌, ◌++◌, take, length, get_or, All, sym, ap, ◌∙◌, subst, below_more}
use Rattle.std.proofs.lemmas.List.{take_more, take_all, get_or_default}
use Rattle.std.proofs.lemmas.List.Elements.{All-append}
use Rattle.rel_base.proofs.SortLemmas.{All-one}

module _ {X : Type 0} (P : X → Type 0) where
  pub one-more : (xs : List X) (k : ℕ) (x : X) → k < length xs → x ≡ get_or xs k x → All P (take k xs) → P x → All P (take (k + 1) xs)
  one-more xs k x low is all p =
      subst (All P) (sym (take_more xs k x low ∙ ap (λ (y : X). take k xs ++ y ∷ []) (sym is))) (All-append P (take k xs) (x ∷ []) all (All-one P x p))

  pub all-read : (xs ys : List X) (k : ℕ) → length xs ≤ k → xs ≡ ys → All P (take k xs) → All P ys
  all-read xs ys k past same all = subst (All P) (take_all k xs past ∙ same) all

  pub by-places : (xs : List X) (d : X) → ((k : ℕ) → k < length xs → P (get_or xs k d)) → All P xs
  by-places xs d each k e below = subst P (get_or_default xs k d e below) (each k below)

-- the item at a place that was read
pub next-place : {X : Type 0} (P : X → Type 0) (xs : List X) (n : ℕ) (x d : X) → n < length xs → x ≡ get_or xs n x → P x
    → ((k : ℕ) → k < n → P (get_or xs k d)) → (k : ℕ) → k < n + 1 → P (get_or xs k d)
next-place P xs n x d low is p each = below_more (λ k. P (get_or xs k d)) n each (subst P (is ∙ get_or_default xs n x d low) p)
