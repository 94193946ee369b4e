-- A wiring of cells and senders, and what contracts see of its ends.
--
--   WiringState                        the channels of the cells, the number of senders, the capacity
--   OutletState, IntakeState           what an outlet has sent to each cell; what an intake has taken
--   AreNumbered number xs               the items are numbered in order, from 0
--   new_outlet, new_intake             an outlet that has sent nothing; an intake that has taken nothing
--   AreIntakes                         these are all intakes of a wiring, in order, and have taken nothing
--   AreOutletEnds, AreIntakeEnds       these are all the ends of a wiring, in order
--   HasEachEnd senders got             the end mark of each sender was taken
--   ReceiptState, receipt_of           what a receipt shows
--   IsDelivered outs taken             a cell took of each sender what it sent there, in its order, and nothing else
--   all_sent_to outs cell              what all outlets sent to a cell, one sender's messages after another's
use Rattle.std.specs.Prelude.{◌≡◌, ℕ, ◌<◌, IsTrue, List, [], ◌∷◌, ◌++◌, length, map, replicate, All, IsPermutation, Some, slice_get, slice_index_or, slice_set}
use Rattle.std.specs.List.{flat_map, list_any, range_with_len}
use Rattle.shuffle_core.specs.Inbox.{of_sender}
use Rattle.exchange_channels.specs.declared.messages.Batch.{Batch}
use Rattle.exchange_channels.specs.declared.messages.Message.{Message}
use Rattle.exchange_channels.specs.Messages.{sender_of, is_end, end_of, batches_of}
use Rattle.exchange_channels.specs.Ports.{Place}

-- a wiring: the channel of each cell, the number of senders, and how many messages may wait in a channel
pub record WiringState : Type 0 where
  pub places : List Place
  pub senders : ℕ
  pub capacity : ℕ

-- an outlet: its wiring, the number of its sender, and for each cell what it sent there
pub record OutletState : Type 0 where
  pub wiring : WiringState
  pub sender : ℕ
  pub sent : List (List Message)

-- an intake: the channel of its cell, which is one of one wiring alone, the number of senders there, the number of its
-- cell, and what it took
pub record IntakeState : Type 0 where
  pub place : Place
  pub senders : ℕ
  pub cell : ℕ
  pub got : List Message

-- a receipt: how many messages might wait, and for each cell and each sender the batches that went there
pub record ReceiptState : Type 0 where
  pub capacity : ℕ
  pub batches : List (List (List Batch))

-- the items are numbered in order: the first has number 0, the next 1, and so on
abbrev pub AreNumbered : {X : Type 0} → (X → ℕ) → List X → Type 0
AreNumbered {X} number xs = (k : ℕ) (d : X) → k < length xs → number (slice_index_or xs k d) ≡ k

-- the number of cells
abbrev pub cells_of : WiringState → ℕ
cells_of wiring = length wiring.places

-- the outlet of a sender that has sent nothing
abbrev pub new_outlet : WiringState → ℕ → OutletState
new_outlet wiring sender =
    record { wiring = wiring; sender = sender; sent = replicate (cells_of wiring) [] }

-- the outlets of so many senders, in order, which have sent nothing
abbrev pub new_outlets : WiringState → ℕ → List OutletState
new_outlets wiring senders = map (new_outlet wiring) (range_with_len 0 senders)

-- the intake of a cell that has taken nothing
abbrev pub new_intake : Place → ℕ → ℕ → IntakeState
new_intake place senders cell = record { place = place; senders = senders; cell = cell; got = [] }

-- what an outlet sent to a cell
abbrev pub sent_to : OutletState → ℕ → List Message
sent_to outlet cell = slice_index_or outlet.sent cell []

-- the outlet once it sent a message to a cell
abbrev pub with_sent_to : OutletState → ℕ → Message → OutletState
with_sent_to outlet cell message =
    record outlet { sent = slice_set outlet.sent cell (sent_to outlet cell ++ message ∷ []) }

-- the outlet once it sent its end mark to each cell
abbrev pub with_ends : OutletState → OutletState
with_ends outlet =
    record outlet { sent = map (λ messages. messages ++ end_of outlet.sender ∷ []) outlet.sent }

-- the end mark of each sender is among the messages
abbrev pub HasEachEnd : ℕ → List Message → Type 0
HasEachEnd senders got =
    (s : ℕ) → s < senders → IsTrue (list_any is_end (of_sender sender_of s got))

-- these are the ends of all outlets of the wiring, in order of their senders
pub record AreOutletEnds (wiring : WiringState) (outs : List OutletState) : Type 0 where
  pub count : length outs ≡ wiring.senders
  pub of_wiring : All (λ out. out.wiring ≡ wiring) outs
  pub in_order : AreNumbered (λ out. out.sender) outs

-- the intake is at the channel of its cell among these
abbrev pub IsAtItsCell : List Place → IntakeState → Type 0
IsAtItsCell places intake = slice_get places intake.cell ≡ Some intake.place

-- the intake is one of the wiring: it is at the channel of its cell there, and waits for the end mark of each sender
pub record IsIntakeOf (wiring : WiringState) (intake : IntakeState) : Type 0 where
  pub at_its_cell : IsAtItsCell wiring.places intake
  pub same_senders : intake.senders ≡ wiring.senders

-- these are all intakes of the wiring, in order of their cells, and have taken nothing
pub record AreIntakes (wiring : WiringState) (intakes : List IntakeState) : Type 0 where
  pub count : length intakes ≡ cells_of wiring
  pub of_wiring : All (IsIntakeOf wiring) intakes
  pub in_order : AreNumbered (λ intake. intake.cell) intakes
  pub nothing_taken : All (λ intake. intake.got ≡ []) intakes

-- the intake before it took anything
abbrev pub untaken : IntakeState → IntakeState
untaken taken = record taken { got = [] }

-- these are the ends of all intakes of the wiring, in order of their cells
abbrev pub AreIntakeEnds : WiringState → List IntakeState → Type 0
AreIntakeEnds wiring ins = AreIntakes wiring (map untaken ins)

-- what the receipt shows: for each cell and each sender, the batches that the sender sent there
abbrev pub receipt_of : WiringState → List OutletState → ReceiptState
receipt_of wiring outs = record {
  capacity = wiring.capacity;
  batches = map (λ cell. map (λ out. batches_of (sent_to out cell)) outs)
      (range_with_len 0 (cells_of wiring));
}

-- what a cell took is, of each sender, what the sender sent there, in its order, and nothing else
pub record IsDelivered (outs : List OutletState) (taken : IntakeState) : Type 0 where
  pub all_taken : (s : ℕ) (d : OutletState) → s < length outs
      → of_sender sender_of s taken.got ≡ sent_to (slice_index_or outs s d) taken.cell
  pub no_stranger : All (λ message. message.sender < length outs) taken.got

-- what all outlets sent to a cell, one sender's messages after another's
abbrev pub all_sent_to : List OutletState → ℕ → List Message
all_sent_to outs cell = flat_map (λ out. sent_to out cell) outs

-- what a cell took is, in some order, what all outlets sent there
abbrev pub TookAllSent : List OutletState → IntakeState → Type 0
TookAllSent outs taken =
    IsDelivered outs taken → IsPermutation taken.got (all_sent_to outs taken.cell)

-- a wiring was made of so many cells and senders and of this capacity: an outlet for each sender and an intake for each cell, in order
pub record IsWired (keep : WiringState) (outlets : List OutletState) (intakes : List IntakeState)
    (cells senders capacity : ℕ) : Type 0 where
  pub same_cells : cells_of keep ≡ cells
  pub same_senders : keep.senders ≡ senders
  pub same_capacity : keep.capacity ≡ capacity
  pub all_outlets : outlets ≡ new_outlets keep senders
  pub all_intakes : AreIntakes keep intakes
