-- What the keepers of a wiring know once every end came back.
use Rattle.std.proofs.Common.{◌≡◌, ℕ, ◌<◌, true, List, [], ◌∷◌, ◌++◌, length, get_or, map, All, sym, ◌∙◌, ap, subst, arith, append-nil}
use Rattle.std.specs.List.{range_with_len}
use Rattle.std.proofs.lemmas.List.{length-map, get_or-map}
use Rattle.std.proofs.lemmas.List.FromFn.{fill_by_all}
use Rattle.shuffle_core.specs.Inbox.{IsInbox, IsDelivered as Delivered}
use Rattle.shuffle_core.proofs.InboxLemmas.{IsDelivered-from_ends}
use Rattle.exchange_channels.specs.declared.messages.Message.{Message}
use Rattle.exchange_channels.specs.Messages.{sender_of, is_end, batches_of}
use Rattle.exchange_channels.specs.Ports.{PortState}
use Rattle.exchange_channels.specs.Wirings.{WiringState, OutletState, IntakeState, new_intake, sent_to, HasEachEnd, IsDelivered, cells_of}
use Rattle.exchange_channels.specs.inner.Outlets.{places_of}
use Rattle.exchange_channels.specs.inner.Keeps.{IsSettled, keeper_with_all, keeper_with_receiver}
use Rattle.exchange_channels.proofs.PortLemmas.{map_same, map-map}

-- some element of a list that has one
pub element : {X : Type 0} (xs : List X) (k : ℕ) → k < length xs → X
element [] k below = absurd (omega arith)
element (x ∷ xs) k below = x

any_intake : PortState → IntakeState
any_intake port = new_intake port.place 0 0

-- a cell whose keeper knows an inbox with every end mark took just what was sent
delivered_at : (outs : List OutletState) (taken : IntakeState) (keeper : PortState) (k : ℕ) → IsSettled keeper → keeper.knows.senders ≡ length outs
    → keeper.knows.returned ≡ map (λ out. sent_to out k) outs → keeper.knows.got ≡ taken.got → taken.cell ≡ k → HasEachEnd (length outs) taken.got → IsDelivered outs taken
delivered_at outs taken keeper k settled number returned got cell each = record {
  all_taken = λ s d below. delivered.all_got s ∙ get_or-map (λ (out : OutletState). sent_to out k) outs s d [] below ∙ ap (λ (c : ℕ). sent_to (get_or outs s d) c) (sym cell);
  no_stranger = subst (All (λ (m : Message). m.sender < length outs)) (ap (λ (q : List Message). taken.got ++ q) delivered.none_waits ∙ append-nil taken.got) inbox.senders_known;
}
  where
    inbox : IsInbox sender_of is_end (record { senders = length outs; capacity = keeper.knows.capacity; sent = map (λ out. sent_to out k) outs; queue = settled.0; got = taken.got })
    inbox = subst (IsInbox sender_of is_end) (λ i. record { senders = number i; capacity = keeper.knows.capacity; sent = returned i; queue = settled.0; got = got i }) settled.1

    delivered : Delivered sender_of (record { senders = length outs; capacity = keeper.knows.capacity; sent = map (λ out. sent_to out k) outs; queue = settled.0; got = taken.got })
    delivered = IsDelivered-from_ends sender_of is_end (record { senders = length outs; capacity = keeper.knows.capacity; sent = map (λ out. sent_to out k) outs; queue = settled.0; got = taken.got }) inbox each

module _ (cells outlets_back intakes_back : List PortState) (outs : List OutletState) (ins : List IntakeState)
    (long : length outlets_back ≡ length cells) (long' : length intakes_back ≡ length cells) (count : length ins ≡ length cells)
    (back : (k : ℕ) (d : PortState) → k < length cells → get_or outlets_back k d ≡ keeper_with_all (get_or cells k d) (map (λ out. sent_to out k) outs)) where
  -- the channels stay
  pub places_stay : places_of outlets_back ≡ places_of cells
  places_stay = map_same (λ p. p.place) (λ p. p.place) cells outlets_back long (λ k d below. ap (λ (p : PortState). p.place) (back k d below))

  module _ (taken : (k : ℕ) (d : PortState) (e : IntakeState) → k < length outlets_back → get_or intakes_back k d ≡ keeper_with_receiver (get_or outlets_back k d) (get_or ins k e).got) where
    both : (k : ℕ) (d : PortState) (e : IntakeState) → k < length cells → get_or intakes_back k d ≡ keeper_with_receiver (keeper_with_all (get_or cells k d) (map (λ out. sent_to out k) outs)) (get_or ins k e).got
    both k d e below = taken k d e (omega arith) ∙ ap (λ (p : PortState). keeper_with_receiver p (get_or ins k e).got) (back k d below)

    pub each_takes : All (λ (p : PortState). p.knows.takes ≡ true) intakes_back
    each_takes k d below = ap (λ (p : PortState). p.knows.takes) (both k d (any_intake d) (omega arith))

    pub returned_at : (k : ℕ) (d : PortState) → k < length cells → (get_or intakes_back k d).knows.returned ≡ map (λ out. sent_to out k) outs
    returned_at k d below = ap (λ (p : PortState). p.knows.returned) (both k d (any_intake d) below)

    module _ (number : All (λ (p : PortState). p.knows.senders ≡ length outs) cells) where
      number_at : (k : ℕ) (d : PortState) → k < length cells → (get_or intakes_back k d).knows.senders ≡ length outs
      number_at k d below = ap (λ (p : PortState). p.knows.senders) (both k d (any_intake d) below) ∙ number k d below

      pub all_returned : All (λ (p : PortState). length p.knows.returned ≡ p.knows.senders) intakes_back
      all_returned k d below =
          ap length (returned_at k d (omega arith)) ∙ length-map outs (λ (out : OutletState). sent_to out k) ∙ sym (number_at k d (omega arith))

      pub all_delivered : All IsSettled intakes_back → ((k : ℕ) (e : IntakeState) → k < length ins → (get_or ins k e).cell ≡ k)
          → All (λ (t : IntakeState). HasEachEnd t.senders t.got) ins → All (λ (t : IntakeState). t.senders ≡ length outs) ins → All (IsDelivered outs) ins
      all_delivered settled in_order ends senders k e below =
          let here : k < length cells = omega arith in
          let there : k < length intakes_back = omega arith in
          let d = element intakes_back k there in
          delivered_at outs (get_or ins k e) (get_or intakes_back k d) k (settled k d there) (number_at k d here) (returned_at k d here)
          (ap (λ (p : PortState). p.knows.got) (both k d e here)) (in_order k e below)
          (subst (λ (n : ℕ). HasEachEnd n (get_or ins k e).got) (senders k e below) (ends k e below))

-- what the passes know is what the receipt shows
pub receipt-from_keepers : (wiring : WiringState) (cells : List PortState) (outs : List OutletState) → length cells ≡ cells_of wiring
    → ((k : ℕ) (d : PortState) → k < length cells → (get_or cells k d).knows.returned ≡ map (λ out. sent_to out k) outs)
    → map (λ cell. map batches_of cell.knows.returned) cells ≡ map (λ cell. map (λ out. batches_of (sent_to out cell)) outs) (range_with_len 0 (cells_of wiring))
receipt-from_keepers wiring cells outs count returned =
    fill_by_all (λ cell. map (λ out. batches_of (sent_to out cell)) outs) (map (λ cell. map batches_of cell.knows.returned) cells) (cells_of wiring) []
    (length-map cells (λ (cell : PortState). map batches_of cell.knows.returned) ∙ count)
    (λ k below. let here : k < length cells = omega arith in let d = element cells k here in
    get_or-map (λ (cell : PortState). map batches_of cell.knows.returned) cells k d [] here
    ∙ ap (map batches_of) (returned k d here) ∙ map-map (λ out. sent_to out k) batches_of outs)
