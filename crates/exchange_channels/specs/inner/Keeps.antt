-- What the keeper of a wiring keeps.
use Rattle.std.specs.Prelude.{◌≡◌, ◌≤◌, ℕ, List, [], length}
use Rattle.exchange_channels.specs.declared.messages.Message.{Message}
use Rattle.exchange_channels.specs.declared.rule.View.{View}
use Rattle.exchange_channels.specs.Ends.{EndsState}
use Rattle.exchange_channels.specs.inner.CellRule.{keeper_view, receiver_view, next_sender_view, with_next_sender, with_returned, with_receiver, IsWholeInbox}
use Rattle.exchange_channels.specs.Ports.{PortState}

-- the keeper of a cell's channel that made so many senders, and to which no end came back
abbrev pub IsKept : ℕ → ℕ → PortState → Type 0
IsKept capacity senders port = port.knows ≡ record (keeper_view capacity) { senders = senders }

-- the receiver of a cell's channel that has taken nothing
abbrev pub receiver_of : PortState → PortState
receiver_of keeper = record { place = keeper.place; knows = receiver_view [] }

-- the next sender that the keeper of a cell makes
abbrev pub next_sender_of : PortState → PortState
next_sender_of keeper = record { place = keeper.place; knows = next_sender_view keeper.knows }

-- the keeper once it made the next sender
abbrev pub keeper_with_sender : PortState → PortState
keeper_with_sender keeper = record keeper { knows = with_next_sender keeper.knows }

-- the keeper once a sender's end came back that had sent so much
abbrev pub keeper_with_returned : PortState → List Message → PortState
keeper_with_returned keeper sent = record keeper { knows = with_returned keeper.knows sent }

-- the keeper once these are what all senders that came back have sent
abbrev pub keeper_with_all : PortState → List (List Message) → PortState
keeper_with_all keeper lists = record keeper { knows = record keeper.knows { returned = lists } }

-- the keeper once the receiver's end came back that had got so much
abbrev pub keeper_with_receiver : PortState → List Message → PortState
keeper_with_receiver keeper got = record keeper { knows = with_receiver keeper.knows got }

-- there is room for the pass of each keeper, and none is there yet
pub record IsRoomFor (cells : List PortState) (passes : EndsState View) : Type 0 where
  pub empty : passes.items ≡ []
  pub room : length cells ≤ passes.spare

-- what the keeper knows, with what waits, is an inbox
abbrev pub IsSettled : PortState → Type 0
IsSettled keeper = (items : List Message) × IsWholeInbox keeper.knows items
