-- What an outlet is seen as, from its ports.
use Rattle.std.specs.Prelude.{◌≡◌, ℕ, false, List, map}
use Rattle.std.specs.List.{list_any}
use Rattle.exchange_channels.specs.declared.messages.Message.{Message}
use Rattle.exchange_channels.specs.Messages.{is_end}
use Rattle.exchange_channels.specs.inner.CellRule.{with_sent}
use Rattle.exchange_channels.specs.Ports.{Place, PortState}
use Rattle.exchange_channels.specs.Wirings.{OutletState, WiringState}

-- the channels of the ports
abbrev pub places_of : List PortState → List Place
places_of ports = map (λ port. port.place) ports

-- the wiring of cells whose channels these ends are at
abbrev pub wiring_of : List PortState → ℕ → ℕ → WiringState
wiring_of ports senders capacity =
    record { places = places_of ports; senders = senders; capacity = capacity }

-- the outlet of a sender whose end at each cell is one of these ports
abbrev pub outlet_of : ℕ → ℕ → ℕ → List PortState → OutletState
outlet_of sender senders capacity ports = record {
  wiring = wiring_of ports senders capacity;
  sender = sender;
  sent = map (λ port. port.knows.sent) ports;
}

-- the port once a message was sent through it
abbrev pub port_with_sent : PortState → Message → PortState
port_with_sent port message = record port { knows = with_sent port.knows message }

-- the port is of this sender, which may still send
pub record IsRunning (sender : ℕ) (port : PortState) : Type 0 where
  pub of_sender : port.knows.sender ≡ sender
  pub no_end : list_any is_end port.knows.sent ≡ false
