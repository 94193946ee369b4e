-- Sums over steps, and sums of taps that are far from their end.
use Rattle.std.proofs.Common.{◌≡◌, ℕ, ◌+◌, ◌*◌, ◌≤◌, List, [], ◌∷◌, ◌++◌, All, arith}
use Rattle.std.proofs.lemmas.List.Sums.{sum_by-cons, sum_by-append}
use Rattle.rel_io.specs.declared.taps.Totals.{Totals}
use Rattle.placement.specs.Exchanges.{PlacedExchange}
use Rattle.row_exchange.specs.Exchanges.{AreLow, AreTold}
use Rattle.row_exchange.proofs.TapLemmas.{told-each}
use Rattle.routed_joins.specs.Listings.{IsLow}
use Rattle.regular_shuffle.specs.TwoWayJoins.{AreWithin, half_of_low, over_steps}
use Rattle.regular_shuffle.specs.inner.StepJoins.{most_in_step, AreSmall}

-- ---- sums that are far from their end

pub still-within : {T : Type 0} (totals : T → Totals) (tag : T → ℕ) (n : ℕ) (sent got listed : ℕ → ℕ) (before after : List T) → AreTold totals tag n sent got listed before after
    → AreSmall n sent → AreSmall n got → AreSmall n listed → (most : ℕ) → All (λ t. AreWithin most (totals t)) before → All (λ t. AreWithin (most + most_in_step) (totals t)) after
still-within totals tag n sent got listed before after x small_sent small_got small_listed most =
    told-each totals tag n (AreWithin most) (AreWithin (most + most_in_step)) sent got listed before after x
    (λ t u low within. record { sent = omega (arith, within.sent, small_sent u low); got = omega (arith, within.got); listed = omega (arith, within.listed) })
    (λ t w low within. record { sent = omega (arith, within.sent); got = omega (arith, within.got, small_got w low); listed = omega (arith, within.listed, small_listed w low) })
    (λ t within. record { sent = omega (arith, within.sent); got = omega (arith, within.got); listed = omega (arith, within.listed) })

module _ {T : Type 0} (totals : T → Totals) (taps : List T) (steps : ℕ) (few : steps ≤ 7) (room : All (λ t. AreWithin (half_of_low + steps * most_in_step) (totals t)) taps) where
  pub are-low : All (λ t. AreLow (totals t)) taps
  are-low k d below = let t = room k d below in record { sent = omega (arith, t.sent, few); got = omega (arith, t.got, few) }

  pub are-unlisted : All (λ t. IsLow (totals t)) taps
  are-unlisted k d below = let t = room k d below in omega (arith, t.listed, few)

-- ---- numbers of steps

pub over-more : (count : PlacedExchange → ℕ → ℕ) (steps : List PlacedExchange) (step : PlacedExchange) (w all last : ℕ) → all ≡ over_steps count steps w → last ≡ count step w
    → all + last ≡ over_steps count (steps ++ step ∷ []) w
over-more count steps step w all last are is =
    omega (arith, are, is, sum_by-append (λ (step : PlacedExchange). count step w) steps (step ∷ []), sum_by-cons (λ (step : PlacedExchange). count step w) step [])
