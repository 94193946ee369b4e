-- Rows that stand one behind another.
use Rattle.std.proofs.Common.{◌≡◌, ℕ, suc, ◌+◌, ◌-◌, ◌<◌, ◌≤◌, List, [], ◌∷◌, length, get_or, take, drop, All, refl, sym, ap, ◌∙◌, arith}
use Rattle.std.specs.Prelude.{slice_range}
use Rattle.rel_base.specs.Picks.{items_at}
use Rattle.rel_base.specs.inner.Strides.{stepped}
use Rattle.rel_base.proofs.RangeLemmas.{items_at-range}
use Rattle.row_exchange.specs.inner.Shipments.{AreFrom}

are-stepped : (from : ℕ) (places : List ℕ) → AreFrom from places → places ≡ stepped from 1 (length places)
are-stepped from [] h = refl
are-stepped from (p ∷ places) h =
    let first : p ≡ from = omega (arith, h 0 (omega arith)) in
    let rest : places ≡ stepped (from + 1) 1 (length places) =
    are-stepped (from + 1) places (λ k l. omega (arith, h (suc k) (omega (arith, l)))) in
    (λ k. first k ∷ rest k)

module _ {X : Type 0} (xs : List X) (from : ℕ) (places : List ℕ) (run : AreFrom from places)
    (within : All (λ place. place < length xs) places) (some : 0 < length places) where
  -- the last of them is within, so all are
  pub run_within : from + length places ≤ length xs
  run_within =
      let low : length places - 1 < length places = omega (arith, some) in
      let last : get_or places (length places - 1) 0 < length xs = within (length places - 1) 0 low in
      omega (arith, run (length places - 1) low, last, some)

  -- the rows at them are a range
  pub run_rows : slice_range xs from (from + length places) ≡ items_at xs places
  run_rows =
      let n = length places in
      let same : from + n - from ≡ n = omega arith in
      ap (λ n. take n (drop from xs)) same ∙ sym (items_at-range xs from n run_within)
      ∙ ap (items_at xs) (sym (are-stepped from places run))
