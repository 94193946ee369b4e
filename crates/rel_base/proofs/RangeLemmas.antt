-- Items that stand one after another, as items at places.
use Rattle.std.proofs.Common.{◌≡◌, ◌∙◌, ℕ, zero, suc, ◌+◌, ◌-◌, ◌*◌, ◌%◌, ◌<◌, ◌≤◌, List, ◌∷◌, ◌++◌, length, get_or, take, drop, map, All, refl, sym, ap, arith}
use Rattle.std.proofs.Math.Nat.{mod-eq_of_lt}
use Rattle.std.proofs.lemmas.List.{drop_more}
use Rattle.std.proofs.lemmas.List.Concat.{flat_map-append}
use Rattle.rel_base.specs.Picks.{items_at}
use Rattle.rel_base.specs.inner.Strides.{stepped}
use Rattle.rel_base.proofs.PickLemmas.{get_or-stepped, length-stepped, some_item}

-- places, and the places behind them
pub stepped-append : (from n m : ℕ) → stepped from 1 n ++ stepped (from + n) 1 m ≡ stepped from 1 (n + m)
stepped-append from zero m =
    let here : from + 0 ≡ from = omega arith in
    let all : 0 + m ≡ m = omega arith in
    rw (here, all) refl
stepped-append from (suc n) m =
    let next : from + suc n ≡ from + 1 + n = omega arith in
    let more : suc n + m ≡ suc (n + m) = omega arith in
    rw (next, more) (ap (λ ps. from ∷ ps) (stepped-append (from + 1) n m))

-- places in a row, each so much lower
pub stepped-minus : (start from n : ℕ) → start ≤ from → map (λ k. k - start) (stepped from 1 n) ≡ stepped (from - start) 1 n
stepped-minus start from zero low = refl
stepped-minus start from (suc n) low =
    let next : from + 1 - start ≡ from - start + 1 = omega arith in
    ap (λ ps. (from - start) ∷ ps) (stepped-minus start (from + 1) n (omega arith) ∙ ap (λ k. stepped k 1 n) next)

-- none of them lies before the first, and none behind the last
pub stepped-from : (from n : ℕ) → All (λ p. from ≤ p) (stepped from 1 n)
stepped-from from n k d low =
    let inside : k < n = omega (arith, low, length-stepped from 1 n) in
    omega (arith, get_or-stepped from 1 n k d inside)

pub stepped-below : (from n end : ℕ) → from + n ≤ end → All (λ p. p < end) (stepped from 1 n)
stepped-below from n end room k d low =
    let inside : k < n = omega (arith, low, length-stepped from 1 n) in
    omega (arith, get_or-stepped from 1 n k d inside)

-- of places a step apart those in a row are places a step apart
pub stepped-stepped : (start step len from n : ℕ) → from + n ≤ len
    → map (λ k. get_or (stepped start step len) k 0) (stepped from 1 n) ≡ stepped (start + step * from) step n
stepped-stepped start step len from zero room = refl
stepped-stepped start step len from (suc n) room =
    let here = get_or-stepped start step len from 0 (omega arith) in
    let next : start + step * (from + 1) ≡ start + step * from + step = omega arith in
    rw here (ap (λ ps. (start + step * from) ∷ ps)
    (stepped-stepped start step len (from + 1) n (omega arith) ∙ ap (λ k. stepped k step n) next))

module _ {X : Type 0} where
  -- items in a row are those at places in a row
  pub taken-at : (xs : List X) (from n : ℕ) (d : X) → from + n ≤ length xs
      → map (λ k. get_or xs k d) (stepped from 1 n) ≡ take n (drop from xs)
  taken-at xs from zero d room = refl
  taken-at xs from (suc n) d room =
      rw (drop_more xs from d (omega arith)) (ap (λ ys. get_or xs from d ∷ ys) (taken-at xs (from + 1) n d (omega arith)))

  pub items_at-range : (xs : List X) (from n : ℕ) → from + n ≤ length xs → items_at xs (stepped from 1 n) ≡ take n (drop from xs)
  items_at-range xs from zero room = refl
  items_at-range xs from (suc n) room =
      let low : from < length xs = omega arith in
      let some = some_item xs from low in
      rw (drop_more xs from some.0 low)
      (ap (λ ys. get_or xs from some.0 ∷ ys) (items_at-range xs (from + 1) n (omega arith)))

  -- a range, and the range behind it
  pub items_at-next : (xs : List X) (from n m : ℕ)
      → items_at xs (stepped from 1 n) ++ items_at xs (stepped (from + n) 1 m) ≡ items_at xs (stepped from 1 (n + m))
  items_at-next xs from n m =
      sym (flat_map-append (λ p. take 1 (drop p xs)) (stepped from 1 n) (stepped (from + n) 1 m))
      ∙ ap (items_at xs) (stepped-append from n m)

-- the first of places a step apart, and those behind it, whose first may be reduced
pub stepped-first : (m next step len : ℕ) → 0 < len → All (λ p. p < m) (stepped next step len)
    → stepped next step len ≡ next ∷ stepped ((next + step) % m) step (len - 1)
stepped-first m next step zero some within = absurd (omega arith)
stepped-first m next step (suc zero) some within = refl
stepped-first m next step (suc (suc n)) some within =
    let rest : suc (suc n) - 1 ≡ suc n = omega arith in
    let low : next + step < m = within 1 0 (omega arith) in
    rw (rest, mod-eq_of_lt low) refl
