-- The rule of a cell's channel. There is one inbox whose queue is what waits in the channel, and each pass knows its part of it.
--
--   IsInboxOf items views       the rule, of what waits and what the passes know
--   first_view, idle_view, ..   what a pass knows at first, once it was taken back, ..
--   Sends, Takes                what a send and a take tell
--   IsWholeInbox v items        what the keeper knows once every pass came back
use Rattle.std.specs.Prelude.{◌≡◌, ℕ, ◌+◌, ◌<◌, ◌≤◌, true, false, List, [], ◌∷◌, ◌++◌, length, slice_index_or}
use mathlib.Core.Option.{some}
use lib.ListN.{get_elem?}
use Rattle.shuffle_core.specs.Inbox.{InboxState, sent_by, IsInbox}
use Rattle.exchange_channels.specs.declared.messages.Message.{Message}
use Rattle.exchange_channels.specs.declared.rule.View.{View}
use Rattle.exchange_channels.specs.Messages.{sender_of, is_end}

-- a pass that was given away: it may do nothing
abbrev pub idle_view : View
idle_view = record {
  keeps = false;
  sends = false;
  takes = false;
  capacity = 0;
  sender = 0;
  senders = 0;
  sent = [];
  got = [];
  returned = [];
}

-- the first pass: it keeps and takes, and no sender was made
abbrev pub first_view : View
first_view = record idle_view { keeps = true; takes = true }

-- the keeper of a channel in which so many may wait, to which no end came back
abbrev pub keeper_view : ℕ → View
keeper_view capacity = record idle_view { keeps = true; capacity = capacity }

-- one more message may wait
abbrev pub with_more_capacity : View → View
with_more_capacity v = record v { capacity = v.capacity + 1 }

-- one more sender was made
abbrev pub with_next_sender : View → View
with_next_sender v = record v { senders = v.senders + 1 }

-- the pass of a sender that has sent so much
abbrev pub sender_view : ℕ → ℕ → List Message → View
sender_view capacity sender sent =
    record idle_view { sends = true; capacity = capacity; sender = sender; sent = sent }

-- the pass of the sender that the keeper makes next: it has sent nothing
abbrev pub next_sender_view : View → View
next_sender_view v = sender_view v.capacity v.senders []

-- the pass of the receiver, which has got so much
abbrev pub receiver_view : List Message → View
receiver_view got = record idle_view { takes = true; got = got }

-- the keeper that has given the taking away
abbrev pub without_receiver : View → View
without_receiver v = record v { takes = false; got = [] }

-- the keeper to which a sender came back that had sent so much
abbrev pub with_returned : View → List Message → View
with_returned v sent = record v { returned = v.returned ++ sent ∷ [] }

-- the keeper to which the receiver came back that had got so much
abbrev pub with_receiver : View → List Message → View
with_receiver v got = record v { takes = true; got = got }

module _ (inbox : InboxState Message) (seat : ℕ → ℕ) where
  -- a sender's pass has the seat of its sender, which is the pass's place and one, and knows what its sender sent
  pub record FitsSender (pass : ℕ) (v : View) : Type 0 where
    pub made : v.sender < inbox.senders
    pub seated : seat v.sender ≡ pass + 1
    pub same_capacity : v.capacity ≡ inbox.capacity
    pub same_sent : v.sent ≡ sent_by inbox v.sender

  -- the receiver's pass is the one that takes, and knows what was got
  pub record FitsReceiver (reader pass : ℕ) (v : View) : Type 0 where
    pub is_reader : pass ≡ reader
    pub same_got : v.got ≡ inbox.got

  -- the keeper's pass is the one that keeps, and knows how many senders there are and what each that came back has sent.
  -- The seat of each of these, and of each that was not made, is empty, which is 0
  pub record FitsKeeper (keeper pass : ℕ) (v : View) : Type 0 where
    pub is_keeper : pass ≡ keeper
    pub same_capacity : v.capacity ≡ inbox.capacity
    pub same_senders : v.senders ≡ inbox.senders
    pub seats_to_come : (s : ℕ) → inbox.senders ≤ s → seat s ≡ 0
    pub seats_returned : (s : ℕ) → s < length v.returned → seat s ≡ 0
    pub same_returned : (s : ℕ) → s < length v.returned
        → slice_index_or v.returned s [] ≡ sent_by inbox s
    pub returned_made : length v.returned ≤ inbox.senders

  -- a pass fits in each of its parts
  pub record Fits (reader keeper pass : ℕ) (v : View) : Type 0 where
    pub if_sends : v.sends ≡ true → FitsSender pass v
    pub if_takes : v.takes ≡ true → FitsReceiver reader pass v
    pub if_keeps : v.keeps ≡ true → FitsKeeper keeper pass v

-- the rule: there are an inbox, a seat for each sender, a reader and a keeper, so that what waits in the channel is the
-- inbox's queue, and each pass fits
pub record IsInboxOf (items : List Message) (views : List View) : Type 0 where
  pub inbox : InboxState Message
  pub seat : ℕ → ℕ
  pub reader : ℕ
  pub keeper : ℕ
  pub is_inbox : IsInbox sender_of is_end inbox
  pub waits : inbox.queue ≡ items
  pub fits : (pass : ℕ) (v : View) → get_elem? views pass ≡ some v
      → Fits inbox seat reader keeper pass v

-- the sender that has sent one more message
abbrev pub with_sent : View → Message → View
with_sent v message = record v { sent = v.sent ++ message ∷ [] }

-- the receiver that has got one more message
abbrev pub with_taken : View → Message → View
with_taken v message = record v { got = v.got ++ message ∷ [] }

-- a send puts the message at the back of what its sender sent
abbrev pub Sends : View → Message → View → Type 0
Sends v message w = w ≡ with_sent v message

-- a take puts the message at the back of what the cell got
abbrev pub Takes : View → Message → View → Type 0
Takes v message w = w ≡ with_taken v message

-- the inbox that a keeper knows to which every pass came back
abbrev pub whole_inbox : View → List Message → InboxState Message
whole_inbox v items =
    record {
      senders = v.senders;
      capacity = v.capacity;
      sent = v.returned;
      queue = items;
      got = v.got;
    }

-- what the keeper knows, with what waits, is an inbox
abbrev pub IsWholeInbox : View → List Message → Type 0
IsWholeInbox v items = IsInbox sender_of is_end (whole_inbox v items)
