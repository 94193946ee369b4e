-- The keepers of a wiring while its ends come back.
--
--   AreEndsOf cells outs ins         these are all ends of a wiring with these keepers, and none came back
--   AreNextPorts cells ports         these are the ends of the sender that comes back next, one at each keeper
--   HavePortsBack, HaveOutletsBack, HaveIntakesBack   keepers before and after these ends came back
--   KnowAllSent outs cells           each keeper knows what every outlet sent to its cell
use Rattle.std.specs.Prelude.{◌≡◌, ℕ, ◌<◌, List, [], length, map, All, slice_index_or}
use Rattle.exchange_channels.specs.Ports.{PortState}
use Rattle.exchange_channels.specs.Wirings.{OutletState, IntakeState, AreNumbered, IsAtItsCell, sent_to}
use Rattle.exchange_channels.specs.inner.Keeps.{keeper_with_returned, keeper_with_all, keeper_with_receiver}
use Rattle.exchange_channels.specs.inner.Outlets.{places_of}

-- these are the ends of all outlets and of all intakes at these keepers, in order, and none came back
pub record AreEndsOf (cells : List PortState) (outs : List OutletState)
    (ins : List IntakeState) : Type 0 where
  pub none : All (λ cell. cell.knows.returned ≡ []) cells
  pub senders : All (λ cell. cell.knows.senders ≡ length outs) cells
  pub outs_places : All (λ out. out.wiring.places ≡ places_of cells) outs
  pub outs_in_order : AreNumbered (λ out. out.sender) outs
  pub ins_count : length ins ≡ length cells
  pub ins_places : All (IsAtItsCell (places_of cells)) ins
  pub ins_senders : All (λ taken. taken.senders ≡ length outs) ins
  pub ins_in_order : AreNumbered (λ taken. taken.cell) ins

-- the ends of a sender, one at the channel of each keeper, to which all senders before it came back
pub record AreNextPorts (cells ports : List PortState) : Type 0 where
  pub count : length ports ≡ length cells
  pub places : (k : ℕ) (d e : PortState) → k < length cells
      → (slice_index_or ports k e).place ≡ (slice_index_or cells k d).place
  pub next : (k : ℕ) (d e : PortState) → k < length cells
      → (slice_index_or ports k e).knows.sender ≡ length (slice_index_or cells k d).knows.returned

-- each keeper has back the end of a sender at its channel
abbrev pub HavePortsBack : List PortState → List PortState → List PortState → Type 0
HavePortsBack ports old new = (k : ℕ) (d e : PortState) → k < length old
    → slice_index_or new k d
    ≡ keeper_with_returned (slice_index_or old k d) (slice_index_or ports k e).knows.sent

-- each keeper has back what every outlet sent to its cell
abbrev pub HaveOutletsBack : List OutletState → List PortState → List PortState → Type 0
HaveOutletsBack outs old new = (k : ℕ) (d : PortState) → k < length old
    → slice_index_or new k d
    ≡ keeper_with_all (slice_index_or old k d) (map (λ out. sent_to out k) outs)

-- each keeper has back the intake of its cell
abbrev pub HaveIntakesBack : List IntakeState → List PortState → List PortState → Type 0
HaveIntakesBack ins old new = (k : ℕ) (d : PortState) (e : IntakeState) → k < length old
    → slice_index_or new k d
    ≡ keeper_with_receiver (slice_index_or old k d) (slice_index_or ins k e).got

-- each keeper knows what every outlet sent to its cell
abbrev pub KnowAllSent : List OutletState → List PortState → Type 0
KnowAllSent outs cells = (k : ℕ) (d : PortState) → k < length cells
    → (slice_index_or cells k d).knows.returned ≡ map (λ out. sent_to out k) outs
