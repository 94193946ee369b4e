-- An inbox stays an inbox where a post is sent or taken, and what it delivers once every end mark was got.
use Rattle.std.proofs.Common.{◌≡◌, ◌≢◌, ℕ, ◌<◌, ◌≤◌, Bool, true, false, cond, eqb, List, [], ◌∷◌, ◌++◌, length, get_or, take, drop, replicate, All, AllPairs, refl, sym, ◌∙◌, ap, subst, ⊎_elim, append_assoc, append-nil, length-append, length-set, arith, get_or-set_same, get_or-set_other}
use Rattle.std.specs.List.{list_any}
use Rattle.std.proofs.lemmas.List.{get_or_past, take-append-drop, get_or_at, get_or_append_left, get_or_default, length-drop, length-replicate, get_or-replicate}
use Rattle.std.proofs.lemmas.List.Elements.{filter-append, All-push, All-nil, All-head, All-tail}
use Rattle.std.proofs.lemmas.List.Quantifiers.{all_pairs_push}
use Rattle.std.proofs.lemmas.List.Folds.{list_any_at, Any-from_list_any}
use Rattle.std.proofs.lemmas.Bool.{ne_eqb, eq-eqb, cases_lt}
use Rattle.std.proofs.lemmas.Bool.Decides.{eqb_tells}
use Rattle.shuffle_core.specs.Inbox.{InboxState, sent_by, new_inbox, with_taken, of_sender, with_sent, IsDelivered, has_ended, HasEachEnd, IsInbox}

-- the test that fails somewhere in the list fails everywhere in it
none_passes : {X : Type 0} (p : X → Bool) (xs : List X) → list_any p xs ≡ false → (k : ℕ) (d : X) → k < length xs → p (get_or xs k d) ≡ false
none_passes p xs none k d below = by (p (get_or xs k d)) refl
  where
    by : (b : Bool) → p (get_or xs k d) ≡ b → p (get_or xs k d) ≡ false
    by false e = e
    by true e = let some : list_any p xs ≡ true = list_any_at p xs k d below e in cc

module _ {P : Type 0} (sender : P → ℕ) where
  -- of a sender that is not of the inbox there is no post
  pub of_sender_past : (n s : ℕ) → n ≤ s → (posts : List P) → All (λ post. sender post < n) posts → of_sender sender s posts ≡ []
  of_sender_past n s past [] known = refl
  of_sender_past n s past (post ∷ posts) known =
      let mine : sender post < n = All-head (λ p. sender p < n) post posts known in
      let other : eqb (sender post) s ≡ false = ne_eqb (sender post) s (λ (e : sender post ≡ s). omega arith) in
      (λ i. cond (other i) (post ∷ of_sender sender s posts) (of_sender sender s posts))
      ∙ of_sender_past n s past posts (All-tail (λ p. sender p < n) post posts known)

  -- a post at the back is at the back of its own sender's posts
  pub of_sender-push_same : (posts : List P) (post : P) (s : ℕ) → sender post ≡ s → of_sender sender s (posts ++ post ∷ []) ≡ of_sender sender s posts ++ post ∷ []
  of_sender-push_same posts post s e =
      filter-append (λ p. eqb (sender p) s) posts (post ∷ [])
      ∙ ap (λ (b : Bool). of_sender sender s posts ++ cond b (post ∷ []) []) (eq-eqb (sender post) s e)

  -- and leaves the posts of each other sender
  pub of_sender-push_other : (posts : List P) (post : P) (s : ℕ) → sender post ≢ s → of_sender sender s (posts ++ post ∷ []) ≡ of_sender sender s posts
  of_sender-push_other posts post s other =
      filter-append (λ p. eqb (sender p) s) posts (post ∷ [])
      ∙ ap (λ (b : Bool). of_sender sender s posts ++ cond b (post ∷ []) []) (ne_eqb (sender post) s other)
      ∙ append-nil (of_sender sender s posts)

  -- what each sender sent once a post was sent
  pub sent_by-with_sent_same : (i : InboxState P) (post : P) → sender post < length i.sent → sent_by (with_sent sender i post) (sender post) ≡ sent_by i (sender post) ++ post ∷ []
  sent_by-with_sent_same i post here = get_or-set_same i.sent (sender post) (sent_by i (sender post) ++ post ∷ []) [] here

  pub sent_by-with_sent_other : (i : InboxState P) (post : P) (s : ℕ) → sender post ≢ s → sent_by (with_sent sender i post) s ≡ sent_by i s
  sent_by-with_sent_other i post s other =
      get_or-set_other i.sent (sender post) s (sent_by i (sender post) ++ post ∷ []) [] (λ (e : s ≡ sender post). other (sym e))

  module _ (ends : P → Bool) where
    abbrev Behind : P → P → Type 0
    Behind earlier later = ends earlier ≡ false

    -- an inbox of which nothing was asked
    pub IsInbox-new_inbox : (senders capacity : ℕ) → IsInbox sender ends (new_inbox senders capacity)
    IsInbox-new_inbox senders capacity = record {
      lists = length-replicate senders [];
      within_capacity = omega arith;
      senders_known = All-nil (λ post. sender post < senders);
      in_order = λ s. sym (empty s);
      end_is_last = λ s. subst (AllPairs Behind) (sym (empty s)) (λ i j d less below. absurd (omega arith));
    }
      where
        empty : (s : ℕ) → get_or {A = List P} (replicate senders []) s [] ≡ []
        empty s = ⊎_elim (λ (b : s < senders). get_or-replicate {A = List P} senders s [] [] b)
            (λ (b : senders ≤ s). get_or_past {X = List P} (replicate senders []) s [] (omega (arith, length-replicate {A = List P} senders []))) (cases_lt s senders)

    -- a post of a sender of the inbox that has not ended, where the inbox has room
    pub IsInbox-with_sent : (i : InboxState P) (post : P) → IsInbox sender ends i → sender post < i.senders
        → has_ended sender ends i (sender post) ≡ false → length i.queue < i.capacity → IsInbox sender ends (with_sent sender i post)
    IsInbox-with_sent i post kept known unended room = record {
      lists = length-set i.sent (sender post) (sent_by i (sender post) ++ post ∷ []) ∙ kept.lists;
      within_capacity = omega (arith, length-append i.queue (post ∷ []));
      senders_known = subst (All (λ p. sender p < i.senders)) (append_assoc i.got i.queue (post ∷ []))
          (All-push (λ p. sender p < i.senders) (i.got ++ i.queue) post kept.senders_known known);
      in_order = λ s. ap (of_sender sender s) (sym (append_assoc i.got i.queue (post ∷ [])))
          ∙ ⊎_elim (λ e. of_sender-push_same (i.got ++ i.queue) post s e.1 ∙ ap (λ l. l ++ post ∷ []) (kept.in_order s) ∙ sym (same s e.1))
          (λ e. of_sender-push_other (i.got ++ i.queue) post s e.1 ∙ kept.in_order s ∙ sym (sent_by-with_sent_other i post s e.1))
          (eqb_tells (sender post) s);
      end_is_last = λ s. ⊎_elim (λ e. subst (AllPairs Behind) (sym (same s e.1)) (all_pairs_push Behind (sent_by i s) post (kept.end_is_last s)
          (none_passes ends (sent_by i s) (ap (has_ended sender ends i) (sym e.1) ∙ unended))))
          (λ e. subst (AllPairs Behind) (sym (sent_by-with_sent_other i post s e.1)) (kept.end_is_last s)) (eqb_tells (sender post) s);
    }
      where
        same : (s : ℕ) → sender post ≡ s → sent_by (with_sent sender i post) s ≡ sent_by i s ++ post ∷ []
        same s e = subst (λ t. sent_by (with_sent sender i post) t ≡ sent_by i t ++ post ∷ []) e
            (sent_by-with_sent_same i post (omega (arith, kept.lists)))

    -- the post in front is taken
    pub IsInbox-with_taken : (i : InboxState P) → IsInbox sender ends i → IsInbox sender ends (with_taken i)
    IsInbox-with_taken i kept = record {
      lists = kept.lists;
      within_capacity = omega (arith, length-drop 1 i.queue);
      senders_known = subst (All (λ p. sender p < i.senders)) (sym moved) kept.senders_known;
      in_order = λ s. ap (of_sender sender s) moved ∙ kept.in_order s;
      end_is_last = kept.end_is_last;
    }
      where
        moved : (i.got ++ take 1 i.queue) ++ drop 1 i.queue ≡ i.got ++ i.queue
        moved = append_assoc i.got (take 1 i.queue) (drop 1 i.queue) ∙ ap (λ l. i.got ++ l) (take-append-drop 1 i.queue)

    -- nothing stands behind an end mark
    nothing_behind : (front back : List P) → list_any ends front ≡ true → AllPairs Behind (front ++ back) → back ≡ []
    nothing_behind front [] some pairs = refl
    nothing_behind front (post ∷ back) some pairs =
        let end = Any-from_list_any ends front some in
        let here : end.0 < length (front ++ post ∷ back) = omega (arith, length-append front (post ∷ back), end.2) in
        let none : ends (get_or (front ++ post ∷ back) end.0 post) ≡ false =
        pairs end.0 (length front) post end.2 (omega (arith, length-append front (post ∷ back))) in
        let is : get_or (front ++ post ∷ back) end.0 post ≡ end.1 =
        get_or_append_left front (post ∷ back) post end.0 end.2 ∙ get_or_default front end.0 post end.1 end.2 ∙ end.3 in
        let shut : ends end.1 ≡ true = end.4 in
        let same : ends end.1 ≡ false = ap ends (sym is) ∙ none in
        cc

    -- where the end mark of each sender was got, all that was sent was got
    pub IsDelivered-from_ends : (i : InboxState P) → IsInbox sender ends i → HasEachEnd sender ends i → IsDelivered sender i
    IsDelivered-from_ends i kept each = by i.queue refl
      where
        middle : (front : List P) (post : P) (back : List P) → All (λ p. sender p < i.senders) (front ++ post ∷ back) → sender post < i.senders
        middle front post back all =
            subst (λ (p : P). sender p < i.senders) (get_or_at front post back post (length front) refl)
            (all (length front) post (omega (arith, length-append front (post ∷ back))))

        by : (queue : List P) → i.queue ≡ queue → IsDelivered sender i
        by [] e = record {
          all_got = λ s. ap (of_sender sender s) (sym (append-nil i.got)) ∙ ap (λ q. of_sender sender s (i.got ++ q)) (sym e) ∙ kept.in_order s;
          none_waits = e;
        }
        by (post ∷ posts) e =
            let known : All (λ p. sender p < i.senders) (i.got ++ post ∷ posts) =
            subst (λ q. All (λ p. sender p < i.senders) (i.got ++ q)) e kept.senders_known in
            let mine : sender post < i.senders = middle i.got post posts known in
            let pairs : AllPairs Behind (of_sender sender (sender post) i.got ++ of_sender sender (sender post) (post ∷ posts)) =
            subst (AllPairs Behind) (sym (kept.in_order (sender post)) ∙ ap (λ q. of_sender sender (sender post) (i.got ++ q)) e
            ∙ filter-append (λ p. eqb (sender p) (sender post)) i.got (post ∷ posts)) (kept.end_is_last (sender post)) in
            let none : of_sender sender (sender post) (post ∷ posts) ≡ [] =
            nothing_behind (of_sender sender (sender post) i.got) _ (each (sender post) mine) pairs in
            let first : of_sender sender (sender post) (post ∷ posts) ≡ post ∷ of_sender sender (sender post) posts =
            ap (λ (b : Bool). cond b (post ∷ of_sender sender (sender post) posts) (of_sender sender (sender post) posts)) (eq-eqb (sender post) (sender post) refl) in
            cc
