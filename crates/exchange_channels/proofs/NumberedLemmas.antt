-- The inbox of a channel is the machine's, once its batches are numbered.
use Rattle.std.proofs.Common.{◌≡◌, ◌≢◌, ℕ, zero, suc, ◌<◌, ◌≤◌, ◌||◌, Bool, true, false, cond, eqb, List, [], ◌∷◌, ◌++◌, length, get_or, set, map, take, drop, All, AllPairs, Some, None, refl, sym, ◌∙◌, ap, subst, ⊎_elim, append_assoc, append-nil, arith}
use Rattle.std.specs.List.{list_any}
use Rattle.std.proofs.lemmas.Bool.{cases_lt}
use Rattle.std.proofs.lemmas.Bool.Decides.{eqb_tells}
use Rattle.std.proofs.lemmas.List.{length-map, get_or-map, get_or_past, map-set}
use Rattle.std.proofs.lemmas.List.Elements.{All-cons, All-head, All-tail, All-nil}
use Rattle.shuffle_core.specs.declared.posts.Post.{Post}
use Rattle.shuffle_core.specs.declared.posts.Stepped.TheVariants.{Sent}
use Rattle.shuffle_core.specs.Inbox.{InboxState, sent_by, of_sender}
use Rattle.shuffle_core.specs.Machine.{answer_to_post, answer_to_take, after_post, sender_of as sender_of_post, is_end as is_end_post}
use Rattle.shuffle_core.proofs.InboxLemmas.{of_sender-push_same, of_sender-push_other}
use Rattle.shuffle_core.proofs.MachineLemmas.{answer_to_post-sent}
use Rattle.exchange_channels.specs.declared.messages.Message.{Message}
use Rattle.exchange_channels.specs.Messages.{sender_of, is_end}
use Rattle.exchange_channels.specs.Numbered.{post_of, numbered_after, numbered_inbox, NumberedIsInbox, EachSendIsSend, EachTakeIsTake}

numbered_after-append : (before xs ys : List Message) → numbered_after before (xs ++ ys) ≡ numbered_after before xs ++ numbered_after (before ++ xs) ys
numbered_after-append before [] ys = ap (λ b. numbered_after b ys) (sym (append-nil before))
numbered_after-append before (x ∷ xs) ys =
    ap (λ l. post_of (length (of_sender sender_of x.sender before)) x ∷ l)
    (numbered_after-append (before ++ x ∷ []) xs ys ∙ ap (λ b. numbered_after (before ++ x ∷ []) xs ++ numbered_after b ys) (append_assoc before (x ∷ []) xs))

length-numbered_after : (before xs : List Message) → length (numbered_after before xs) ≡ length xs
length-numbered_after before [] = refl
length-numbered_after before (x ∷ xs) = ap suc (length-numbered_after (before ++ x ∷ []) xs)

-- the posts of a sender are all that `of_sender` keeps of them
of_sender-of_sender : (s : ℕ) (xs : List Message) → of_sender sender_of s (of_sender sender_of s xs) ≡ of_sender sender_of s xs
of_sender-of_sender s [] = refl
of_sender-of_sender s (x ∷ xs) = by (eqb x.sender s) refl (of_sender-of_sender s xs)
  where
    by : (b : Bool) → eqb x.sender s ≡ b → of_sender sender_of s (of_sender sender_of s xs) ≡ of_sender sender_of s xs
        → of_sender sender_of s (cond b (x ∷ of_sender sender_of s xs) (of_sender sender_of s xs)) ≡ cond b (x ∷ of_sender sender_of s xs) (of_sender sender_of s xs)
    by true e rest = ap (λ (b : Bool). cond b (x ∷ of_sender sender_of s (of_sender sender_of s xs)) (of_sender sender_of s (of_sender sender_of s xs))) e ∙ ap (λ l. x ∷ l) rest
    by false e rest = rest

-- the numbered messages of a sender are those of the sender, numbered
of_sender-numbered_after : (s : ℕ) (before xs : List Message) → of_sender sender_of_post s (numbered_after before xs) ≡ numbered_after (of_sender sender_of s before) (of_sender sender_of s xs)
of_sender-numbered_after s before [] = refl
of_sender-numbered_after s before (x ∷ xs) = ⊎_elim (same (of_sender-numbered_after s (before ++ x ∷ []) xs)) (other (of_sender-numbered_after s (before ++ x ∷ []) xs)) (eqb_tells x.sender s)
  where
    same : of_sender sender_of_post s (numbered_after (before ++ x ∷ []) xs) ≡ numbered_after (of_sender sender_of s (before ++ x ∷ [])) (of_sender sender_of s xs)
        → (eqb x.sender s ≡ true) × (x.sender ≡ s) → of_sender sender_of_post s (numbered_after before (x ∷ xs)) ≡ numbered_after (of_sender sender_of s before) (of_sender sender_of s (x ∷ xs))
    same rest e =
        ap (λ (b : Bool). cond b (post_of (length (of_sender sender_of x.sender before)) x ∷ of_sender sender_of_post s (numbered_after (before ++ x ∷ []) xs)) (of_sender sender_of_post s (numbered_after (before ++ x ∷ []) xs))) e.0
        ∙ ap (λ l. post_of (length (of_sender sender_of x.sender before)) x ∷ l)
        (rest ∙ ap (λ b. numbered_after b (of_sender sender_of s xs)) (of_sender-push_same sender_of before x s e.1))
        ∙ ap (λ n. post_of n x ∷ numbered_after (of_sender sender_of s before ++ x ∷ []) (of_sender sender_of s xs))
        (ap (λ t. length (of_sender sender_of t before)) e.1 ∙ ap length (sym (of_sender-of_sender s before)) ∙ ap (λ t. length (of_sender sender_of t (of_sender sender_of s before))) (sym e.1))
        ∙ ap (λ (b : Bool). numbered_after (of_sender sender_of s before) (cond b (x ∷ of_sender sender_of s xs) (of_sender sender_of s xs))) (sym e.0)

    other : of_sender sender_of_post s (numbered_after (before ++ x ∷ []) xs) ≡ numbered_after (of_sender sender_of s (before ++ x ∷ [])) (of_sender sender_of s xs)
        → (eqb x.sender s ≡ false) × (x.sender ≢ s) → of_sender sender_of_post s (numbered_after before (x ∷ xs)) ≡ numbered_after (of_sender sender_of s before) (of_sender sender_of s (x ∷ xs))
    other rest e =
        ap (λ (b : Bool). cond b (post_of (length (of_sender sender_of x.sender before)) x ∷ of_sender sender_of_post s (numbered_after (before ++ x ∷ []) xs)) (of_sender sender_of_post s (numbered_after (before ++ x ∷ []) xs))) e.0
        ∙ rest ∙ ap (λ b. numbered_after b (of_sender sender_of s xs)) (of_sender-push_other sender_of before x s e.1)
        ∙ ap (λ (b : Bool). numbered_after (of_sender sender_of s before) (cond b (x ∷ of_sender sender_of s xs) (of_sender sender_of s xs))) (sym e.0)

is_end-post_of : (n : ℕ) (x : Message) → is_end_post (post_of n x) ≡ is_end x
is_end-post_of n x = by x.batch refl
  where
    by : (batch : _) → x.batch ≡ batch → is_end_post (post_of n x) ≡ is_end x
    by None e = rw e
    by (Some b) e = rw e

any_end-numbered_after : (before xs : List Message) → list_any is_end_post (numbered_after before xs) ≡ list_any is_end xs
any_end-numbered_after before [] = refl
any_end-numbered_after before (x ∷ xs) = λ i. is_end-post_of (length (of_sender sender_of x.sender before)) x i || any_end-numbered_after (before ++ x ∷ []) xs i

-- the end marks stand where they stood
end_at : (before xs : List Message) (k : ℕ) (d : Post) (e : Message) → k < length xs → is_end_post (get_or (numbered_after before xs) k d) ≡ is_end (get_or xs k e)
end_at before [] k d e below = absurd (omega arith)
end_at before (x ∷ xs) zero d e below = is_end-post_of (length (of_sender sender_of x.sender before)) x
end_at before (x ∷ xs) (suc k) d e below = end_at (before ++ x ∷ []) xs k d e (omega arith)

ends_last : (xs : List Message) → AllPairs (λ earlier later. is_end earlier ≡ false) xs → AllPairs (λ earlier later. is_end_post earlier ≡ false) (numbered_after [] xs)
ends_last [] pairs i j d less below = absurd (omega arith)
ends_last (x ∷ xs) pairs i j d less below =
    let there : j < length (x ∷ xs) = omega (arith, length-numbered_after [] (x ∷ xs)) in
    end_at [] (x ∷ xs) i d x (omega arith) ∙ pairs i j x less there

known_after : (n : ℕ) (before xs : List Message) → All (λ (m : Message). m.sender < n) xs → All (λ (p : Post). p.sender < n) (numbered_after before xs)
known_after n before [] all = All-nil (λ (p : Post). p.sender < n)
known_after n before (x ∷ xs) all =
    All-cons (λ (p : Post). p.sender < n) (post_of (length (of_sender sender_of x.sender before)) x) (numbered_after (before ++ x ∷ []) xs)
    (All-head (λ (m : Message). m.sender < n) x xs all) (known_after n (before ++ x ∷ []) xs (All-tail (λ (m : Message). m.sender < n) x xs all))

module _ (i : InboxState Message) where
  sent_by-numbered : (s : ℕ) → sent_by (numbered_inbox i) s ≡ numbered_after [] (sent_by i s)
  sent_by-numbered s = ⊎_elim (λ (b : s < length i.sent). get_or-map (numbered_after []) i.sent s [] [] b)
      (λ (past : length i.sent ≤ s). get_or_past (map (numbered_after []) i.sent) s [] (omega (arith, length-map i.sent (numbered_after [])))
      ∙ ap (numbered_after []) (sym (get_or_past i.sent s [] past))) (cases_lt s (length i.sent))

  pub numbered-is_inbox : NumberedIsInbox i
  numbered-is_inbox kept = record {
    lists = length-map i.sent (numbered_after []) ∙ kept.lists;
    within_capacity = omega (arith, length-numbered_after i.got i.queue, kept.within_capacity);
    senders_known = subst (All (λ (p : Post). p.sender < i.senders)) (numbered_after-append [] i.got i.queue) (known_after i.senders [] (i.got ++ i.queue) kept.senders_known);
    in_order = λ s. ap (of_sender sender_of_post s) (sym (numbered_after-append [] i.got i.queue)) ∙ of_sender-numbered_after s [] (i.got ++ i.queue)
        ∙ ap (numbered_after []) (kept.in_order s) ∙ sym (sent_by-numbered s);
    end_is_last = λ s. subst (AllPairs (λ earlier later. is_end_post earlier ≡ false)) (sym (sent_by-numbered s)) (ends_last (sent_by i s) (kept.end_is_last s));
  }

  pub numbered-send : EachSendIsSend i
  numbered-send m kept known running room = record {
    answer = sent;
    after = ap (after_post (numbered_inbox i) post) sent ∙ (λ k. record { senders = i.senders; capacity = i.capacity; sent = lists k; queue = queue k; got = numbered_after [] i.got });
  }
    where
      post : Post
      post = post_of (length (sent_by i m.sender)) m

      sent : answer_to_post (numbered_inbox i) (post_of (length (sent_by i m.sender)) m) ≡ Sent
      sent = answer_to_post-sent (numbered_inbox i) (post_of (length (sent_by i m.sender)) m) known
          (ap (list_any is_end_post) (sent_by-numbered m.sender) ∙ any_end-numbered_after [] (sent_by i m.sender) ∙ running) (omega (arith, length-numbered_after i.got i.queue))

      own : of_sender sender_of m.sender (sent_by i m.sender) ≡ sent_by i m.sender
      own = ap (of_sender sender_of m.sender) (sym (kept.in_order m.sender)) ∙ of_sender-of_sender m.sender (i.got ++ i.queue) ∙ kept.in_order m.sender

      lists : set (map (numbered_after []) i.sent) m.sender (sent_by (numbered_inbox i) m.sender ++ post_of (length (sent_by i m.sender)) m ∷ []) ≡ map (numbered_after []) (set i.sent m.sender (sent_by i m.sender ++ m ∷ []))
      lists =
          ap (λ l. set (map (numbered_after []) i.sent) m.sender (l ++ post_of (length (sent_by i m.sender)) m ∷ [])) (sent_by-numbered m.sender)
          ∙ ap (λ l. set (map (numbered_after []) i.sent) m.sender (numbered_after [] (sent_by i m.sender) ++ post_of (length l) m ∷ [])) (sym own)
          ∙ ap (set (map (numbered_after []) i.sent) m.sender) (sym (numbered_after-append [] (sent_by i m.sender) (m ∷ [])))
          ∙ sym (map-set (numbered_after []) i.sent m.sender (sent_by i m.sender ++ m ∷ []))

      queue : numbered_after i.got i.queue ++ post_of (length (sent_by i m.sender)) m ∷ [] ≡ numbered_after i.got (i.queue ++ m ∷ [])
      queue =
          ap (λ l. numbered_after i.got i.queue ++ post_of (length l) m ∷ []) (sym (kept.in_order m.sender)) ∙ sym (numbered_after-append i.got i.queue (m ∷ []))

  pub numbered-take : EachTakeIsTake i
  numbered-take m behind waits = record {
    answer = ap (λ q. answer_to_take (numbered_after i.got q)) waits;
    after = λ k. record { senders = i.senders; capacity = i.capacity; sent = map (numbered_after []) i.sent; queue = queue k; got = got k };
  }
    where
      queue : drop 1 (numbered_after i.got i.queue) ≡ numbered_after (i.got ++ take 1 i.queue) (drop 1 i.queue)
      queue = ap (λ q. drop 1 (numbered_after i.got q)) waits ∙ ap (λ q. numbered_after (i.got ++ take 1 q) (drop 1 q)) (sym waits)

      got : numbered_after [] i.got ++ take 1 (numbered_after i.got i.queue) ≡ numbered_after [] (i.got ++ take 1 i.queue)
      got =
          ap (λ q. numbered_after [] i.got ++ take 1 (numbered_after i.got q)) waits ∙ sym (numbered_after-append [] i.got (m ∷ []))
          ∙ ap (λ q. numbered_after [] (i.got ++ take 1 q)) (sym waits)
