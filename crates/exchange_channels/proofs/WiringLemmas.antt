-- How a wiring is made of its keepers.
use Rattle.std.proofs.Common.{◌≡◌, ℕ, zero, suc, ◌+◌, ◌<◌, ◌≤◌, ⊎_elim, List, [], ◌∷◌, ◌++◌, length, get_or, map, replicate, All, Some, refl, sym, ◌∙◌, ap, subst, arith}
use Rattle.std.specs.Prelude.{slice_get}
use Rattle.std.proofs.lemmas.Bool.{cases_lt}
use Rattle.std.proofs.lemmas.List.{length-map, length_push, get_or_append_left, get_or_push}
use Rattle.std.proofs.lemmas.List.Elements.{All-map}
use Rattle.exchange_channels.specs.inner.CellRule.{with_next_sender}
use Rattle.exchange_channels.specs.Ports.{PortState}
use Rattle.exchange_channels.specs.Wirings.{IntakeState, new_outlet}
use Rattle.exchange_channels.specs.inner.Outlets.{outlet_of, places_of, wiring_of, IsRunning}
use Rattle.exchange_channels.specs.inner.Keeps.{IsKept, receiver_of, next_sender_of, keeper_with_sender}
use Rattle.exchange_channels.proofs.PortLemmas.{map-map}

map-const : {X Y : Type 0} (y : Y) (xs : List X) → map (λ _. y) xs ≡ replicate (length xs) y
map-const y [] = refl
map-const y (x ∷ xs) = ap (λ l. y ∷ l) (map-const y xs)

-- what is at a place of the mapped list
pub slice_get-map : {X Y : Type 0} (f : X → Y) (xs : List X) (k : ℕ) (d : X) → k < length xs → slice_get (map f xs) k ≡ Some (f (get_or xs k d))
slice_get-map f [] k d below = absurd (omega arith)
slice_get-map f (x ∷ xs) zero d below = refl
slice_get-map f (x ∷ xs) (suc k) d below = slice_get-map f xs k d (omega arith)

-- an intake more, of the next cell
pub in_order_more : (intakes : List IntakeState) (intake : IntakeState) → intake.cell ≡ length intakes → ((k : ℕ) (d : IntakeState) → k < length intakes → (get_or intakes k d).cell ≡ k)
    → (k : ℕ) (d : IntakeState) → k < length (intakes ++ intake ∷ []) → (get_or (intakes ++ intake ∷ []) k d).cell ≡ k
in_order_more intakes intake next before k d below =
    ⊎_elim
    (λ (less : k < length intakes). ap (λ (i : IntakeState). i.cell) (get_or_append_left intakes (intake ∷ []) d k less) ∙ before k d less)
    (λ (past : length intakes ≤ k). let there : length intakes ≡ k = omega (arith, length_push intakes intake) in
    ap (λ (i : IntakeState). i.cell) (get_or_push intakes intake d k there) ∙ next ∙ there) (cases_lt k (length intakes))

-- each cell made one more sender
module _ (old new : List PortState) (each : new ≡ map keeper_with_sender old) where
  pub kept_more : (capacity number : ℕ) → All (IsKept capacity number) old → All (IsKept capacity (number + 1)) new
  kept_more capacity number kept =
      subst (All (IsKept capacity (number + 1))) (sym each)
      (All-map (IsKept capacity (number + 1)) keeper_with_sender old (λ k d below. ap with_next_sender (kept k d below)))

  pub places_kept : places_of new ≡ places_of old
  places_kept = ap places_of each ∙ map-map keeper_with_sender (λ p. p.place) old

module _ (cells : List PortState) where
  -- the ends of the next sender belong to it, and it may send
  pub next_sender_runs : (capacity number : ℕ) → All (IsKept capacity number) cells → All (IsRunning number) (map next_sender_of cells)
  next_sender_runs capacity number kept =
      All-map (IsRunning number) next_sender_of cells (λ k d below. record { of_sender = ap (λ v. v.senders) (kept k d below); no_end = refl })

  -- the outlet of the next sender has sent nothing
  pub outlet_of-next_sender : (number senders capacity : ℕ) → outlet_of number senders capacity (map next_sender_of cells) ≡ new_outlet (wiring_of cells senders capacity) number
  outlet_of-next_sender number senders capacity = λ i. record {
    wiring = record { places = map-map next_sender_of (λ p. p.place) cells i; senders = senders; capacity = capacity };
    sender = number;
    sent = (map-map next_sender_of (λ p. p.knows.sent) cells ∙ map-const [] cells ∙ ap (λ n. replicate n []) (sym (length-map cells (λ (p : PortState). p.place)))) i;
  }

  -- the receivers are at the channels of the keepers, and have taken nothing
  pub places_of-receivers : places_of (map receiver_of cells) ≡ places_of cells
  places_of-receivers = map-map receiver_of (λ p. p.place) cells

  pub receivers_fresh : All (λ (p : PortState). p.knows.got ≡ []) (map receiver_of cells)
  receivers_fresh = All-map (λ (p : PortState). p.knows.got ≡ []) receiver_of cells (λ k d below. refl)
