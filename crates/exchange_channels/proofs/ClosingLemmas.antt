-- The ends of a wiring come back, cell by cell.
use Rattle.std.proofs.Common.{◌≡◌, ℕ, ◌<◌, ◌≤◌, ⊎_elim, List, [], ◌∷◌, ◌++◌, length, get_or, set, map, All, sym, ◌∙◌, ap, subst, arith, get_or-set_same, get_or-set_other}
use Rattle.std.proofs.lemmas.Bool.{cases_lt}
use Rattle.std.proofs.lemmas.List.{get_or-map, get_or_default, get_or_append_left, get_or_push, length_push, length-map, map_push}
use Rattle.std.proofs.lemmas.List.Elements.{All-push}
use Rattle.exchange_channels.specs.declared.messages.Message.{Message}
use Rattle.exchange_channels.specs.Ports.{PortState}
use Rattle.exchange_channels.specs.Wirings.{WiringState, OutletState, IntakeState, IsIntakeOf, AreIntakeEnds, HasEachEnd, cells_of, sent_to, untaken}
use Rattle.exchange_channels.specs.inner.Outlets.{outlet_of, places_of}
use Rattle.exchange_channels.specs.inner.Keeps.{keeper_with_returned, keeper_with_all, keeper_with_receiver}

-- what is known of intakes that have taken nothing is known of their ends
module _ (wiring : WiringState) (ins : List IntakeState) (ends : AreIntakeEnds wiring ins) where
  same_end : (k : ℕ) (d : IntakeState) → k < length ins → get_or (map untaken ins) k (untaken d) ≡ untaken (get_or ins k d)
  same_end k d below = get_or-map untaken ins k d (untaken d) below

  pub ends_count : length ins ≡ cells_of wiring
  ends_count = sym (length-map ins untaken) ∙ ends.count

  pub ends_of_wiring : All (IsIntakeOf wiring) ins
  ends_of_wiring k d below =
      let of_wiring : IsIntakeOf wiring (untaken (get_or ins k d)) = subst (IsIntakeOf wiring) (same_end k d below) (ends.of_wiring k (untaken d) (omega (arith, length-map ins untaken))) in
      record { at_its_cell = of_wiring.at_its_cell; same_senders = of_wiring.same_senders }

  pub ends_in_order : (k : ℕ) (d : IntakeState) → k < length ins → (get_or ins k d).cell ≡ k
  ends_in_order k d below = sym (ap (λ (t : IntakeState). t.cell) (same_end k d below)) ∙ ends.in_order k (untaken d) (omega (arith, length-map ins untaken))

-- ports and keepers of the same channels
pub same_place : (ports cells : List PortState) → places_of ports ≡ places_of cells → (k : ℕ) (d e : PortState) → k < length cells → (get_or ports k e).place ≡ (get_or cells k d).place
same_place ports cells same k d e below =
    let long : length ports ≡ length cells = sym (length-map ports (λ (p : PortState). p.place)) ∙ ap length same ∙ length-map cells (λ (p : PortState). p.place) in
    sym (get_or-map (λ (p : PortState). p.place) ports k e d.place (omega (arith, long)))
    ∙ ap (λ places. get_or places k d.place) same ∙ get_or-map (λ (p : PortState). p.place) cells k d d.place below

-- what an outlet sent to a cell is what its port there knows
pub sent_to-outlet_of : (number senders capacity : ℕ) (ports : List PortState) (out : OutletState) → outlet_of number senders capacity ports ≡ out → (k : ℕ) (e : PortState) → k < length ports
    → (get_or ports k e).knows.sent ≡ sent_to out k
sent_to-outlet_of number senders capacity ports out is k e below =
    sym (get_or-map (λ (p : PortState). p.knows.sent) ports k e [] below) ∙ ap (λ (o : OutletState). sent_to o k) is

-- an outlet more came back
pub all_more : (old now new : PortState) (k : ℕ) (outs : List OutletState) (out : OutletState) (sent : List Message) → now ≡ keeper_with_all old (map (λ o. sent_to o k) outs)
    → new ≡ keeper_with_returned now sent → sent ≡ sent_to out k → new ≡ keeper_with_all old (map (λ o. sent_to o k) (outs ++ out ∷ []))
all_more old now new k outs out sent was is same =
    is ∙ ap (λ p. keeper_with_returned p sent) was ∙ ap (λ l. keeper_with_all old (map (λ o. sent_to o k) outs ++ l ∷ [])) same
    ∙ ap (keeper_with_all old) (sym (map_push (λ (o : OutletState). sent_to o k) outs out))

-- an intake more came back, to its cell
module _ (cells now : List PortState) (ins : List IntakeState) (taken : IntakeState) (number : ℕ) (item new : PortState) (here : number ≡ length ins) (within : number < length now) (is : item ≡ get_or now number item)
    (back : new ≡ keeper_with_receiver item taken.got) where
  pub back_more : ((k : ℕ) (d : PortState) (e : IntakeState) → k < length ins → get_or now k d ≡ keeper_with_receiver (get_or cells k d) (get_or ins k e).got)
      → ((k : ℕ) (d : PortState) → length ins ≤ k → get_or now k d ≡ get_or cells k d)
      → (k : ℕ) (d : PortState) (e : IntakeState) → k < length (ins ++ taken ∷ []) → get_or (set now number new) k d ≡ keeper_with_receiver (get_or cells k d) (get_or (ins ++ taken ∷ []) k e).got
  back_more before rest k d e below =
      ⊎_elim
      (λ (less : k < length ins).
      get_or-set_other now number k new d (λ (same : k ≡ number). omega arith) ∙ before k d e less
      ∙ ap (λ (t : IntakeState). keeper_with_receiver (get_or cells k d) t.got) (sym (get_or_append_left ins (taken ∷ []) e k less)))
      (λ (past : length ins ≤ k). let there : number ≡ k = omega (arith, length_push ins taken) in
      subst (λ (j : ℕ). get_or (set now number new) j d ≡ keeper_with_receiver (get_or cells j d) (get_or (ins ++ taken ∷ []) j e).got) there
      (get_or-set_same now number new d within ∙ back
      ∙ ap (λ (p : PortState). keeper_with_receiver p taken.got) (is ∙ get_or_default now number item d within ∙ rest number d (omega arith))
      ∙ ap (λ (t : IntakeState). keeper_with_receiver (get_or cells number d) t.got) (sym (get_or_push ins taken e number (sym here)))))
      (cases_lt k (length ins))

  pub rest_more : ((k : ℕ) (d : PortState) → length ins ≤ k → get_or now k d ≡ get_or cells k d)
      → (k : ℕ) (d : PortState) → length (ins ++ taken ∷ []) ≤ k → get_or (set now number new) k d ≡ get_or cells k d
  rest_more rest k d past =
      get_or-set_other now number k new d (λ (same : k ≡ number). omega (arith, length_push ins taken)) ∙ rest k d (omega (arith, length_push ins taken))

pub ends_more : (ins : List IntakeState) (taken : IntakeState) → All (λ (t : IntakeState). HasEachEnd t.senders t.got) ins → HasEachEnd taken.senders taken.got
    → All (λ (t : IntakeState). HasEachEnd t.senders t.got) (ins ++ taken ∷ [])
ends_more ins taken all each = All-push (λ (t : IntakeState). HasEachEnd t.senders t.got) ins taken all each

-- the channels of an outlet among the ends are those of the cells
pub same_places : (cells : List PortState) (outs : List OutletState) → All (λ (o : OutletState). o.wiring.places ≡ places_of cells) outs
    → (number senders capacity : ℕ) (ports : List PortState) (out : OutletState) → outlet_of number senders capacity ports ≡ out
    → (k : ℕ) → k < length outs → out ≡ get_or outs k out → places_of ports ≡ places_of cells
same_places cells outs all number senders capacity ports out is k below there = ap (λ (o : OutletState). o.wiring.places) (is ∙ there) ∙ all k out below
