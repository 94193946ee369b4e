-- The bounded inbox with end marks, over any type of posts. Each post has a sender, and may be that sender's end mark.
--
--   InboxState P                       what an inbox has: senders, capacity, what each sent, what waits, what was got
--   with_sent sender inbox post        the inbox once the post was sent
--   with_taken inbox                   the inbox once the post in front was taken
--   IsInbox sender ends inbox          what every inbox keeps, whatever was sent and taken
--   HasEachEnd sender ends inbox       the end mark of each sender was got
--   IsDelivered sender inbox           all that was sent was got
use Rattle.std.specs.Prelude.{◌≡◌, ℕ, ◌<◌, ◌≤◌, Bool, false, IsTrue, List, [], ◌∷◌, ◌++◌, length, take, drop, replicate, All, AllPairs, filter, slice_index_or, slice_set, nat_eq}
use Rattle.std.specs.List.{list_any}

-- an inbox: its number of senders, how many posts may wait in it, what each sender sent, the posts that wait, and the
-- posts that were taken out
pub record InboxState (P : Type 0) : Type 0 where
  pub senders : ℕ
  pub capacity : ℕ
  pub sent : List (List P)
  pub queue : List P
  pub got : List P

module _ {P : Type 0} where
  -- what a sender sent, in order
  abbrev pub sent_by : InboxState P → ℕ → List P
  sent_by inbox s = slice_index_or inbox.sent s []

  -- an inbox of which nothing was asked so far
  abbrev pub new_inbox : ℕ → ℕ → InboxState P
  new_inbox senders capacity =
      record {
        senders = senders;
        capacity = capacity;
        sent = replicate senders [];
        queue = [];
        got = [];
      }

  -- the inbox once the post in front was taken: it stands at the back of what was got
  abbrev pub with_taken : InboxState P → InboxState P
  with_taken inbox =
      record inbox { queue = drop 1 inbox.queue; got = inbox.got ++ take 1 inbox.queue }

  module _ (sender : P → ℕ) where
    -- the posts of one sender, in order
    abbrev pub of_sender : ℕ → List P → List P
    of_sender s posts = filter (λ post. nat_eq (sender post) s) posts

    -- the inbox once a post was sent: it stands at the back of what waits, and of what its sender sent
    abbrev pub with_sent : InboxState P → P → InboxState P
    with_sent inbox post = record inbox {
      sent = slice_set inbox.sent (sender post) (sent_by inbox (sender post) ++ post ∷ []);
      queue = inbox.queue ++ post ∷ [];
    }

    -- all that was sent was got: of each sender what it sent, in its order, and nothing waits
    pub record IsDelivered (inbox : InboxState P) : Type 0 where
      pub all_got : (s : ℕ) → of_sender s inbox.got ≡ sent_by inbox s
      pub none_waits : inbox.queue ≡ []

    module _ (ends : P → Bool) where
      -- whether the end mark of a sender was sent
      abbrev pub has_ended : InboxState P → ℕ → Bool
      has_ended inbox s = list_any ends (sent_by inbox s)

      -- the end mark of each sender was got
      abbrev pub HasEachEnd : InboxState P → Type 0
      HasEachEnd inbox =
          (s : ℕ) → s < inbox.senders → IsTrue (list_any ends (of_sender s inbox.got))

      -- what every inbox keeps, whatever was sent and taken
      pub record IsInbox (inbox : InboxState P) : Type 0 where
        -- there is a list for each sender
        pub lists : length inbox.sent ≡ inbox.senders
        -- no more posts wait than the capacity
        pub within_capacity : length inbox.queue ≤ inbox.capacity
        -- each post that was got or waits is of a sender of this inbox
        pub senders_known : All (λ post. sender post < inbox.senders) (inbox.got ++ inbox.queue)
        -- of each sender, the posts that were got, followed by those that wait, are what it sent, in order
        pub in_order : (s : ℕ) → of_sender s (inbox.got ++ inbox.queue) ≡ sent_by inbox s
        -- a sender sent nothing behind its end mark
        pub end_is_last : (s : ℕ)
            → AllPairs (λ earlier later. ends earlier ≡ false) (sent_by inbox s)
