-- One cell, two senders, and an inbox in which eight messages may wait. Sender 0 sends the batches a and b and ends, sender 1
-- sends c and ends, and then the cell takes all.
use Rattle.std.proofs.Common.{◌≡◌, ℕ, lit<, arith, List, [], ◌∷◌, Option, Some, None, pos, refl}
use Rattle.std.specs.Prelude.{fold}
use Rattle.rel_base.specs.declared.values.Value.TheVariants.{Int}
use Rattle.shuffle_core.specs.declared.posts.Post.{Post}
use Rattle.shuffle_core.specs.Inbox.{InboxState, new_inbox, of_sender, with_sent, with_taken}
use Rattle.exchange_channels.specs.declared.messages.Batch.{Batch}
use Rattle.exchange_channels.specs.declared.messages.Message.{Message}
use Rattle.exchange_channels.specs.Messages.{sender_of, batch_of, end_of, drained_of, rows_of, rows_of_atom, drained_rows}
use Rattle.exchange_channels.specs.Numbered.{numbered_after, numbered_inbox}
use Rattle.exchange_channels.specs.Ports.{Place}
use Rattle.exchange_channels.specs.Wirings.{WiringState, OutletState, AreNumbered, new_outlet, with_sent_to, with_ends, sent_to, all_sent_to, receipt_of}

-- a batch of atom 0 of two rows, of one row, and of none
abbrev a : Batch
a = record { atom = 0; rows = (Int (pos 7) ∷ []) ∷ (Int (pos 8) ∷ []) ∷ [] }

abbrev b : Batch
b = record { atom = 0; rows = (Int (pos 7) ∷ []) ∷ [] }

abbrev c : Batch
c = record { atom = 0; rows = [] }

-- all messages, in the order in which they were sent
abbrev messages : List Message
messages = batch_of 0 a ∷ batch_of 0 b ∷ end_of 0 ∷ batch_of 1 c ∷ end_of 1 ∷ []

-- the same, where sender 1 was first
abbrev messages_other_way : List Message
messages_other_way = batch_of 1 c ∷ batch_of 0 a ∷ end_of 1 ∷ batch_of 0 b ∷ end_of 0 ∷ []

abbrev sent : InboxState Message
sent = fold (with_sent sender_of) (new_inbox 2 8) messages

pub with_sent-two_senders : sent ≡ record {
  senders = 2;
  capacity = 8;
  sent = (batch_of 0 a ∷ batch_of 0 b ∷ end_of 0 ∷ []) ∷ (batch_of 1 c ∷ end_of 1 ∷ []) ∷ [];
  queue = messages;
  got = [];
}
with_sent-two_senders = refl

pub with_taken-two_senders : with_taken (with_taken sent) ≡ record sent {
  queue = end_of 0 ∷ batch_of 1 c ∷ end_of 1 ∷ [];
  got = batch_of 0 a ∷ batch_of 0 b ∷ [];
}
with_taken-two_senders = refl

pub of_sender-two_senders : of_sender sender_of 0 messages ≡ of_sender sender_of 0 messages_other_way
of_sender-two_senders = refl

pub drained_of-two_senders : drained_of messages ≡ (0, a) ∷ (0, b) ∷ (1, c) ∷ []
drained_of-two_senders = refl

pub drained_of-other_way : drained_of messages_other_way ≡ (1, c) ∷ (0, a) ∷ (0, b) ∷ []
drained_of-other_way = refl

pub rows_of-two_senders : rows_of messages ≡ 3
rows_of-two_senders = refl

-- batches of two atoms, of which the second's row stands between the rows of the first
abbrev two_atoms : List Batch
two_atoms = a ∷ record { atom = 1; rows = (Int (pos 5) ∷ []) ∷ [] } ∷ b ∷ []

pub rows_of_atom-first : rows_of_atom 0 two_atoms ≡ (Int (pos 7) ∷ []) ∷ (Int (pos 8) ∷ []) ∷ (Int (pos 7) ∷ []) ∷ []
rows_of_atom-first = refl

pub rows_of_atom-second : rows_of_atom 1 two_atoms ≡ (Int (pos 5) ∷ []) ∷ []
rows_of_atom-second = refl

pub drained_rows-two_senders : drained_rows 0 (drained_of messages) ≡ (Int (pos 7) ∷ []) ∷ (Int (pos 8) ∷ []) ∷ (Int (pos 7) ∷ []) ∷ []
drained_rows-two_senders = refl

-- a list that begins with number 1 is not numbered in order
pub AreNumbered-from_one : AreNumbered (λ (n : ℕ). n) (1 ∷ 2 ∷ []) → ⊥
AreNumbered-from_one numbered = omega (arith, numbered 0 0 (lit< tt))

abbrev post : ℕ → Option ℕ → Post
post sender label = record { sender = sender; label = label }

-- each batch has the number that it has among its sender's
pub numbered_after-two_senders : numbered_after [] messages ≡ post 0 (Some 0) ∷ post 0 (Some 1) ∷ post 0 None ∷ post 1 (Some 0) ∷ post 1 None ∷ []
numbered_after-two_senders = refl

pub numbered_inbox-two_senders : numbered_inbox (with_taken sent) ≡ record {
  senders = 2;
  capacity = 8;
  sent = (post 0 (Some 0) ∷ post 0 (Some 1) ∷ post 0 None ∷ []) ∷ (post 1 (Some 0) ∷ post 1 None ∷ []) ∷ [];
  queue = post 0 (Some 1) ∷ post 0 None ∷ post 1 (Some 0) ∷ post 1 None ∷ [];
  got = post 0 (Some 0) ∷ [];
}
numbered_inbox-two_senders = refl

-- the outlets, at the end, of a wiring of two cells, to the second of which nothing was sent but the end marks
module _ (first second : Place) where
  abbrev wiring : WiringState
  wiring = record { places = first ∷ second ∷ []; senders = 2; capacity = 8 }

  abbrev outlet_0 : OutletState
  outlet_0 = with_ends (with_sent_to (with_sent_to (new_outlet wiring 0) 0 (batch_of 0 a)) 0 (batch_of 0 b))

  abbrev outlet_1 : OutletState
  outlet_1 = with_ends (with_sent_to (new_outlet wiring 1) 0 (batch_of 1 c))

  pub sent_to-first_cell : sent_to outlet_0 0 ≡ of_sender sender_of 0 messages
  sent_to-first_cell = refl

  pub sent_to-second_cell : sent_to outlet_0 1 ≡ end_of 0 ∷ []
  sent_to-second_cell = refl

  pub all_sent_to-first_cell : all_sent_to (outlet_0 ∷ outlet_1 ∷ []) 0 ≡ messages
  all_sent_to-first_cell = refl

  pub receipt_of-two_cells : receipt_of wiring (outlet_0 ∷ outlet_1 ∷ []) ≡ record {
    capacity = 8;
    batches = ((a ∷ b ∷ []) ∷ (c ∷ []) ∷ []) ∷ ([] ∷ [] ∷ []) ∷ [];
  }
  receipt_of-two_cells = refl
