-- The machine keeps an inbox through every event, and its log shows the inbox that its definitions speak of.
use Rattle.std.proofs.Common.{◌≡◌, ℕ, ◌<◌, ◌≤◌, ◌-◌, Bool, true, false, leb, ◌||◌, List, [], ◌∷◌, ◌++◌, length, get_or, set, map, replicate, refl, sym, ◌∙◌, ap, subst, ⊎_elim, arith, get_or-set_same, get_or-set_other, length-set, length-append, length-drop}
use Rattle.std.specs.List.{list_any, range_with_len}
use Rattle.std.proofs.lemmas.Bool.Decides.{eqb_tells, nat_tests}
use Rattle.std.proofs.lemmas.List.{take-append-le, drop-append-le, length-replicate, get_or-replicate}
use Rattle.std.proofs.lemmas.List.FromFn.{get_or-map-range_with_len, length-map-range_with_len, fill_by_all}
use Rattle.std.proofs.lemmas.List.Folds.{list_any-append}
use Rattle.shuffle_core.specs.declared.posts.Post.{Post}
use Rattle.shuffle_core.specs.declared.posts.Event.{Event}
use Rattle.shuffle_core.specs.declared.posts.Stepped.TheVariants.{Sent, Ended, Full}
use Rattle.shuffle_core.specs.declared.posts.Event.TheVariants.{Send, Take}
use Rattle.shuffle_core.specs.Inbox.{InboxState, sent_by, new_inbox, of_sender, with_sent, has_ended, IsInbox}
use Rattle.shuffle_core.specs.Machine.{sender_of, is_end, answer_to_post, after_post, after_event, run_of, inbox_of_log, ended_of, IsLogOf}
use Rattle.shuffle_core.proofs.InboxLemmas.{IsInbox-with_sent, IsInbox-with_taken, of_sender-push_same, of_sender-push_other}

pub IsInbox-after_post : (i : InboxState Post) (post : Post) → IsInbox sender_of is_end i → IsInbox sender_of is_end (after_post i post (answer_to_post i post))
IsInbox-after_post i post kept = by (leb i.senders post.sender) (has_ended sender_of is_end i post.sender) (leb i.capacity (length i.queue)) refl refl refl
  where
    by : (unknown ended full : Bool) → leb i.senders post.sender ≡ unknown → has_ended sender_of is_end i post.sender ≡ ended → leb i.capacity (length i.queue) ≡ full
        → IsInbox sender_of is_end (after_post i post (answer_to_post i post))
    by true ended full u e f = rw u kept
    by false true full u e f = rw (u, e) kept
    by false false true u e f = rw (u, e, f) kept
    by false false false u e f =
        rw (u, e, f) (IsInbox-with_sent sender_of is_end i post kept (grind (arith, nat_tests, u)) e (grind (arith, nat_tests, f)))

pub IsInbox-after_event : (i : InboxState Post) (event : Event) → IsInbox sender_of is_end i → IsInbox sender_of is_end (after_event i event)
IsInbox-after_event i (Send post) kept = IsInbox-after_post i post kept
IsInbox-after_event i Take kept = IsInbox-with_taken sender_of is_end i kept

-- an inbox stays one through every list of events
pub IsInbox-run_of : (i : InboxState Post) (events : List Event) → IsInbox sender_of is_end i → IsInbox sender_of is_end (run_of i events)
IsInbox-run_of i [] kept = kept
IsInbox-run_of i (event ∷ events) kept = IsInbox-run_of (after_event i event) events (IsInbox-after_event i event kept)

-- the answer to a post of a sender that has ended
pub answer_to_post-ended : (i : InboxState Post) (post : Post) → post.sender < i.senders → has_ended sender_of is_end i post.sender ≡ true → answer_to_post i post ≡ Ended
answer_to_post-ended i post known ended = let k : leb i.senders post.sender ≡ false = grind (arith, nat_tests) in rw (k, ended)

-- the answer to a post where no more may wait
pub answer_to_post-full : (i : InboxState Post) (post : Post) → post.sender < i.senders → has_ended sender_of is_end i post.sender ≡ false → i.capacity ≤ length i.queue → answer_to_post i post ≡ Full
answer_to_post-full i post known running full =
    let k : leb i.senders post.sender ≡ false = grind (arith, nat_tests) in
    let f : leb i.capacity (length i.queue) ≡ true = grind (arith, nat_tests) in
    rw (k, running, f)

-- the answer to a post that is sent
pub answer_to_post-sent : (i : InboxState Post) (post : Post) → post.sender < i.senders → has_ended sender_of is_end i post.sender ≡ false → length i.queue < i.capacity → answer_to_post i post ≡ Sent
answer_to_post-sent i post known running room =
    let k : leb i.senders post.sender ≡ false = grind (arith, nat_tests) in
    let r : leb i.capacity (length i.queue) ≡ false = grind (arith, nat_tests) in
    rw (k, running, r)

or-false : (b : Bool) → (b || false) ≡ b
or-false true = refl
or-false false = refl

module _ (senders capacity : ℕ) where
  -- of an empty log the inbox is new, and no sender has ended
  pub inbox_of_log-nil : inbox_of_log senders capacity [] 0 ≡ new_inbox senders capacity
  inbox_of_log-nil =
      ap (λ (lists : List (List Post)). record { senders = senders; capacity = capacity; sent = lists; queue = []; got = [] })
      (sym (fill_by_all (λ s. []) (replicate senders []) senders [] (length-replicate senders []) (λ k below. get_or-replicate senders k [] [] below)))

  pub ended_of-nil : replicate senders false ≡ ended_of senders []
  ended_of-nil = fill_by_all (λ s. false) (replicate senders false) senders false (length-replicate senders false) (λ k below. get_or-replicate senders k false false below)

  -- what a sender sent is what the log has of it
  pub sent_by-logged : (posts : List Post) (taken s : ℕ) → s < senders → sent_by (inbox_of_log senders capacity posts taken) s ≡ of_sender sender_of s posts
  sent_by-logged posts taken s below =
      get_or-map-range_with_len (λ t. of_sender sender_of t posts) 0 senders s s [] below (omega arith)

  -- what is noted of a sender is whether it has ended
  pub has_ended-logged : (posts : List Post) (taken : ℕ) (ended : List Bool) (s : ℕ) (d : Bool) → ended ≡ ended_of senders posts → s < senders
      → has_ended sender_of is_end (inbox_of_log senders capacity posts taken) s ≡ get_or ended s d
  has_ended-logged posts taken ended s d noted below =
      ap (list_any is_end) (sent_by-logged posts taken s below)
      ∙ sym (get_or-map-range_with_len (λ t. list_any is_end (of_sender sender_of t posts)) 0 senders s s d below (omega arith))
      ∙ ap (λ (l : List Bool). get_or l s d) (sym noted)

  module _ (posts : List Post) (post : Post) (known : post.sender < senders) where
    -- a post at the back of the log was sent
    pub inbox_of_log-push : (taken : ℕ) → taken ≤ length posts → inbox_of_log senders capacity (posts ++ post ∷ []) taken ≡ with_sent sender_of (inbox_of_log senders capacity posts taken) post
    inbox_of_log-push taken some =
        λ i. record { senders = senders; capacity = capacity; sent = lists i; queue = drop-append-le taken posts (post ∷ []) some i; got = take-append-le taken posts (post ∷ []) some i }
      where
        lists : map (λ s. of_sender sender_of s (posts ++ post ∷ [])) (range_with_len 0 senders)
            ≡ set (map (λ s. of_sender sender_of s posts) (range_with_len 0 senders)) post.sender (sent_by (inbox_of_log senders capacity posts taken) post.sender ++ post ∷ [])
        lists =
            let sent = map (λ s. of_sender sender_of s posts) (range_with_len 0 senders) in
            let longer = sent_by (inbox_of_log senders capacity posts taken) post.sender ++ post ∷ [] in
            let long : length sent ≡ senders = length-map-range_with_len (λ s. of_sender sender_of s posts) 0 senders in
            sym (fill_by_all (λ s. of_sender sender_of s (posts ++ post ∷ [])) (set sent post.sender longer) senders []
            (length-set sent post.sender longer ∙ long)
            (λ s below. ⊎_elim
            (λ e. subst (λ t. get_or (set sent post.sender longer) t [] ≡ of_sender sender_of t (posts ++ post ∷ [])) e.1
            (get_or-set_same sent post.sender longer [] (omega (arith, long))
            ∙ ap (λ l. l ++ post ∷ []) (sent_by-logged posts taken post.sender known)
            ∙ sym (of_sender-push_same sender_of posts post post.sender refl)))
            (λ e. get_or-set_other sent post.sender s longer [] (λ same. e.1 (sym same)) ∙ sent_by-logged posts taken s below ∙ sym (of_sender-push_other sender_of posts post s e.1))
            (eqb_tells post.sender s)))

    -- the end of its sender is noted where it is an end mark
    pub ended_of-push : (taken : ℕ) → has_ended sender_of is_end (inbox_of_log senders capacity posts taken) post.sender ≡ false
        → set (ended_of senders posts) post.sender (is_end post) ≡ ended_of senders (posts ++ post ∷ [])
    ended_of-push taken running =
        fill_by_all (λ s. list_any is_end (of_sender sender_of s (posts ++ post ∷ []))) (set (ended_of senders posts) post.sender (is_end post)) senders false
        (length-set (ended_of senders posts) post.sender (is_end post) ∙ long)
        (λ s below. ⊎_elim
        (λ e. subst (λ t. get_or (set (ended_of senders posts) post.sender (is_end post)) t false ≡ list_any is_end (of_sender sender_of t (posts ++ post ∷ []))) e.1
        (get_or-set_same (ended_of senders posts) post.sender (is_end post) false (omega (arith, long)) ∙ sym mine))
        (λ e. get_or-set_other (ended_of senders posts) post.sender s (is_end post) false (λ same. e.1 (sym same))
        ∙ get_or-map-range_with_len (λ t. list_any is_end (of_sender sender_of t posts)) 0 senders s s false below (omega arith)
        ∙ ap (list_any is_end) (sym (of_sender-push_other sender_of posts post s e.1)))
        (eqb_tells post.sender s))
      where
        long : length (ended_of senders posts) ≡ senders
        long = length-map-range_with_len (λ s. list_any is_end (of_sender sender_of s posts)) 0 senders

        none : list_any is_end (of_sender sender_of post.sender posts) ≡ false
        none = ap (list_any is_end) (sym (sent_by-logged posts taken post.sender known)) ∙ running

        mine : list_any is_end (of_sender sender_of post.sender (posts ++ post ∷ [])) ≡ is_end post
        mine =
            ap (list_any is_end) (of_sender-push_same sender_of posts post post.sender refl)
            ∙ list_any-append is_end (of_sender sender_of post.sender posts) (post ∷ [])
            ∙ ap (λ (b : Bool). b || (is_end post || false)) none ∙ or-false (is_end post)

-- what the log tells of the answer to a post of a known sender, and that the log of an inbox stays one where the post is sent
module _ (senders capacity : ℕ) (posts : List Post) (taken : ℕ) (ended : List Bool) (kept : IsLogOf senders capacity posts taken ended) (post : Post) (known : post.sender < senders) where
  pub answer_to_post-noted : (i : InboxState Post) (d : Bool) → inbox_of_log senders capacity posts taken ≡ i → get_or ended post.sender d ≡ true → answer_to_post i post ≡ Ended
  answer_to_post-noted i d is noted =
      subst (λ j. answer_to_post j post ≡ Ended) is
      (answer_to_post-ended (inbox_of_log senders capacity posts taken) post known
      (has_ended-logged senders capacity posts taken ended post.sender d kept.ends_noted known ∙ noted))

  module _ (d : Bool) (running : get_or ended post.sender d ≡ false) where
    not_ended : has_ended sender_of is_end (inbox_of_log senders capacity posts taken) post.sender ≡ false
    not_ended = has_ended-logged senders capacity posts taken ended post.sender d kept.ends_noted known ∙ running

    pub answer_to_post-no_room : (i : InboxState Post) → inbox_of_log senders capacity posts taken ≡ i → capacity ≤ length posts - taken → answer_to_post i post ≡ Full
    answer_to_post-no_room i is full =
        subst (λ j. answer_to_post j post ≡ Full) is
        (answer_to_post-full (inbox_of_log senders capacity posts taken) post known not_ended (omega (arith, length-drop taken posts)))

    module _ (room : length posts - taken < capacity) where
      pub answer_to_post-room : (i : InboxState Post) → inbox_of_log senders capacity posts taken ≡ i → answer_to_post i post ≡ Sent
      answer_to_post-room i is =
          subst (λ j. answer_to_post j post ≡ Sent) is
          (answer_to_post-sent (inbox_of_log senders capacity posts taken) post known not_ended (omega (arith, length-drop taken posts)))

      pub inbox_of_log-after_post : (i : InboxState Post) → inbox_of_log senders capacity posts taken ≡ i
          → inbox_of_log senders capacity (posts ++ post ∷ []) taken ≡ after_post i post (answer_to_post i post)
      inbox_of_log-after_post i is =
          inbox_of_log-push senders capacity posts post known taken kept.taken_of_sent ∙ ap (λ j. with_sent sender_of j post) is
          ∙ ap (after_post i post) (sym (answer_to_post-room i is))

      pub IsLogOf-push : IsLogOf senders capacity (posts ++ post ∷ []) taken (set ended post.sender (is_end post))
      IsLogOf-push = record {
        taken_of_sent = omega (arith, length-append posts (post ∷ []), kept.taken_of_sent);
        ends_noted = ap (λ (l : List Bool). set l post.sender (is_end post)) kept.ends_noted ∙ ended_of-push senders capacity posts post known taken not_ended;
        is_inbox = subst (IsInbox sender_of is_end) (sym (inbox_of_log-push senders capacity posts post known taken kept.taken_of_sent))
            (IsInbox-with_sent sender_of is_end (inbox_of_log senders capacity posts taken) post kept.is_inbox known not_ended (omega (arith, length-drop taken posts)));
      }
