-- An inbox of two senders in which one post may wait, event by event.
use Rattle.std.proofs.Common.{◌≡◌, ℕ, List, [], ◌∷◌, Option, Some, None, refl}
use Rattle.shuffle_core.specs.declared.posts.Post.{Post}
use Rattle.shuffle_core.specs.declared.posts.Event.{Event}
use Rattle.shuffle_core.specs.declared.posts.Event.TheVariants.{Send, Take}
use Rattle.shuffle_core.specs.declared.posts.Stepped.{Stepped}
use Rattle.shuffle_core.specs.declared.posts.Stepped.TheVariants.{Sent, Took, NoSender, Ended, Full, Empty}
use Rattle.shuffle_core.specs.Inbox.{InboxState, new_inbox}
use Rattle.shuffle_core.specs.Machine.{answer_of, after_event, run_of}

abbrev post : ℕ → Option ℕ → Post
post sender label = record { sender = sender; label = label }

-- the answers to the events, one after another
abbrev answers_of : InboxState Post → List Event → List Stepped
answers_of i [] = []
answers_of i (event ∷ events) = answer_of i event ∷ answers_of (after_event i event) events

abbrev events : List Event
events =
    Send (post 0 (Some 7)) ∷ Send (post 1 (Some 8)) ∷ Take ∷ Take ∷ Send (post 0 None) ∷ Take ∷ Send (post 0 (Some 9)) ∷ Send (post 2 (Some 1)) ∷ []

pub answers-two_senders_one_place : answers_of (new_inbox 2 1) events ≡ Sent ∷ Full ∷ Took (post 0 (Some 7)) ∷ Empty ∷ Sent ∷ Took (post 0 None) ∷ Ended ∷ NoSender ∷ []
answers-two_senders_one_place = refl

pub run-two_senders_one_place : run_of (new_inbox 2 1) events ≡ record {
  senders = 2;
  capacity = 1;
  sent = (post 0 (Some 7) ∷ post 0 None ∷ []) ∷ [] ∷ [];
  queue = [];
  got = post 0 (Some 7) ∷ post 0 None ∷ [];
}
run-two_senders_one_place = refl
