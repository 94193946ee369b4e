-- The inbox of a channel beside the machine: a batch is labelled by how many its sender sent to this cell before it.
--
--   post_of number message        the machine's post of a message
--   numbered_after before ms      the posts of messages behind those that came before
--   numbered_inbox inbox          the machine's inbox
--   SendIsSend, TakeIsTake        a send and a take are the machine's
use Rattle.std.specs.Prelude.{◌≡◌, ℕ, ◌<◌, false, List, [], ◌∷◌, ◌++◌, length, map, option_map}
use Rattle.shuffle_core.specs.declared.posts.Post.{Post}
use Rattle.shuffle_core.specs.declared.posts.Event.TheVariants.{Send, Take}
use Rattle.shuffle_core.specs.declared.posts.Stepped.TheVariants.{Sent, Took}
use Rattle.shuffle_core.specs.Inbox.{InboxState, sent_by, of_sender, has_ended, with_sent, with_taken, IsInbox}
use Rattle.shuffle_core.specs.Machine.{answer_of, after_event, sender_of as sender_of_post, is_end as is_end_post}
use Rattle.exchange_channels.specs.declared.messages.Message.{Message}
use Rattle.exchange_channels.specs.Messages.{sender_of, is_end}

-- the machine's post of a message: its sender, and for a batch its number
abbrev pub post_of : ℕ → Message → Post
post_of number message =
    record { sender = message.sender; label = option_map (λ _. number) message.batch }

-- the posts of messages behind others, each numbered by how many of its sender came before it
abbrev pub numbered_after : List Message → List Message → List Post
numbered_after before [] = []
numbered_after before (m ∷ ms) =
    post_of (length (of_sender sender_of m.sender before)) m ∷ numbered_after (before ++ m ∷ []) ms

-- the machine's inbox of a channel's inbox
abbrev pub numbered_inbox : InboxState Message → InboxState Post
numbered_inbox inbox = record {
  senders = inbox.senders;
  capacity = inbox.capacity;
  sent = map (numbered_after []) inbox.sent;
  queue = numbered_after inbox.got inbox.queue;
  got = numbered_after [] inbox.got;
}

-- a message is sent to the channel's inbox as its post is sent to the machine's
pub record SendIsSend (inbox : InboxState Message) (message : Message) : Type 0 where
  pub answer : answer_of (numbered_inbox inbox)
      (Send (post_of (length (sent_by inbox message.sender)) message)) ≡ Sent
  pub after : after_event (numbered_inbox inbox)
      (Send (post_of (length (sent_by inbox message.sender)) message))
      ≡ numbered_inbox (with_sent sender_of inbox message)

-- the message in front is taken from the channel's inbox as its post is taken from the machine's
pub record TakeIsTake (inbox : InboxState Message) (message : Message) : Type 0 where
  pub answer : answer_of (numbered_inbox inbox) Take
      ≡ Took (post_of (length (of_sender sender_of message.sender inbox.got)) message)
  pub after : after_event (numbered_inbox inbox) Take ≡ numbered_inbox (with_taken inbox)

-- the machine's inbox of a channel's inbox is an inbox
abbrev pub NumberedIsInbox : InboxState Message → Type 0
NumberedIsInbox inbox =
    IsInbox sender_of is_end inbox → IsInbox sender_of_post is_end_post (numbered_inbox inbox)

-- where a message may be sent, its send is the machine's
abbrev pub EachSendIsSend : InboxState Message → Type 0
EachSendIsSend inbox =
    (message : Message) → IsInbox sender_of is_end inbox → message.sender < inbox.senders
    → has_ended sender_of is_end inbox message.sender ≡ false
    → length inbox.queue < inbox.capacity → SendIsSend inbox message

-- where a message waits in front, its take is the machine's
abbrev pub EachTakeIsTake : InboxState Message → Type 0
EachTakeIsTake inbox = (message : Message) (behind : List Message) → inbox.queue ≡ message ∷ behind
    → TakeIsTake inbox message
