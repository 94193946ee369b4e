-- The inbox as a machine: what it answers to an event, and what it is afterwards.
--
--   answer_of inbox event         the answer
--   after_event inbox event       the inbox afterwards
--   run_of inbox events           the inbox after all of the events, one after another
use Rattle.std.specs.Prelude.{◌≡◌, ℕ, ◌≤◌, Bool, List, [], ◌∷◌, drop, take, map, fold, if◌then◌else◌, is_none, length, nat_le}
use Rattle.std.specs.List.{range_with_len, list_any}
use Rattle.shuffle_core.specs.declared.posts.Post.{Post}
use Rattle.shuffle_core.specs.declared.posts.Event.{Event}
use Rattle.shuffle_core.specs.declared.posts.Event.TheVariants.{Send, Take}
use Rattle.shuffle_core.specs.declared.posts.Stepped.{Stepped}
use Rattle.shuffle_core.specs.declared.posts.Stepped.TheVariants.{Sent, Took, NoSender, Ended, Full, Empty}
use Rattle.shuffle_core.specs.Inbox as inbox
use Rattle.shuffle_core.specs.Inbox.{InboxState, with_taken}

-- the sender of a post
abbrev pub sender_of : Post → ℕ
sender_of post = post.sender

-- whether a post is an end mark: it has no label
abbrev pub is_end : Post → Bool
is_end post = is_none post.label

-- the answer to a post: the first of these that holds. Its sender is not of this inbox, its sender has ended, as many
-- posts wait as may; or it is sent
abbrev pub answer_to_post : InboxState Post → Post → Stepped
answer_to_post i post =
    if nat_le i.senders post.sender then NoSender
    else (if inbox.has_ended sender_of is_end i post.sender then Ended
    else (if nat_le i.capacity (length i.queue) then Full else Sent))

-- the answer to a take: the post in front, or that nothing waits
abbrev pub answer_to_take : List Post → Stepped
answer_to_take [] = Empty
answer_to_take (post ∷ posts) = Took post

-- what an inbox answers to an event
abbrev pub answer_of : InboxState Post → Event → Stepped
answer_of i (Send post) = answer_to_post i post
answer_of i Take = answer_to_take i.queue

-- the inbox after a post with this answer: it is as it was, unless the post was sent
abbrev pub after_post : InboxState Post → Post → Stepped → InboxState Post
after_post i post Sent = inbox.with_sent sender_of i post
after_post i post _ = i

-- the inbox after an event. A take where nothing waits leaves it as it was
abbrev pub after_event : InboxState Post → Event → InboxState Post
after_event i (Send post) = after_post i post (answer_to_post i post)
after_event i Take = with_taken i

-- the inbox after the events, one after another
abbrev pub run_of : InboxState Post → List Event → InboxState Post
run_of i events = fold after_event i events

-- the inbox to which these posts were sent, in order, and of which the first so many were taken
abbrev pub inbox_of_log : ℕ → ℕ → List Post → ℕ → InboxState Post
inbox_of_log senders capacity posts taken = record {
  senders = senders;
  capacity = capacity;
  sent = map (λ s. inbox.of_sender sender_of s posts) (range_with_len 0 senders);
  queue = drop taken posts;
  got = take taken posts;
}

-- the senders of whom an end mark is among the posts
abbrev pub ended_of : ℕ → List Post → List Bool
ended_of senders posts =
    map (λ s. list_any is_end (inbox.of_sender sender_of s posts)) (range_with_len 0 senders)

-- what the code keeps of an inbox: the posts that were taken are some of those that were sent, it is noted of each
-- sender whether it has ended, and the whole is an inbox
pub record IsLogOf (senders capacity : ℕ) (posts : List Post) (taken : ℕ) (ended : List Bool) : Type 0 where
  pub taken_of_sent : taken ≤ length posts
  pub ends_noted : ended ≡ ended_of senders posts
  pub is_inbox : inbox.IsInbox sender_of is_end (inbox_of_log senders capacity posts taken)
