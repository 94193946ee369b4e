-- Each step keeps the rule of a cell's channel.
use Rattle.std.proofs.Common.{◌≡◌, ◌≢◌, ℕ, zero, suc, ◌+◌, ◌<◌, ◌≤◌, Bool, true, false, true≢false, cond, eqb, List, [], ◌∷◌, ◌++◌, ◌⊎◌, length, set, take, drop, AllPairs, refl, sym, ◌∙◌, ap, subst, ⊎_elim, inl, inr, arith, length-set}
use Rattle.std.specs.List.{list_any}
use mathlib.Core.Option.{some, some-ne-none, some-injective}
use lib.ListN.{get_elem?}
use Rattle.std.proofs.lemmas.Bool.{cases_lt, ne_eqb, eq-eqb}
use Rattle.std.proofs.lemmas.Bool.Decides.{eqb_tells}
use Rattle.std.proofs.lemmas.List.{get_or_append_left, get_or_push, get_or_past, length_push, ext_get_or}
use Rattle.std.proofs.lemmas.List.Elements.{All-weaker}
use Rattle.crossbeam_channel.specs.Fifo.{Pushes, Pops, Forks, Merges, Learns}
use Rattle.atomic_table.proofs.Lists.{at_set}
use Rattle.shuffle_core.specs.Inbox.{InboxState, sent_by, new_inbox, with_taken, with_sent, IsInbox}
use Rattle.shuffle_core.proofs.InboxLemmas.{IsInbox-new_inbox, IsInbox-with_sent, IsInbox-with_taken, sent_by-with_sent_same, sent_by-with_sent_other}
use Rattle.exchange_channels.specs.declared.messages.Message.{Message}
use Rattle.exchange_channels.specs.declared.rule.View.{View}
use Rattle.exchange_channels.specs.Messages.{sender_of, is_end}
use Rattle.exchange_channels.specs.inner.CellRule.{idle_view, first_view, with_more_capacity, with_next_sender, next_sender_view, receiver_view, without_receiver, with_returned, with_receiver, FitsSender, FitsReceiver, FitsKeeper, Fits, IsInboxOf, Sends, Takes, IsWholeInbox}

-- F of each pass and what it knows
abbrev Each : (ℕ → View → Type 0) → List View → Type 0
Each F views = (pass : ℕ) (v : View) → get_elem? views pass ≡ some v → F pass v

-- after a change of one pass
each_set : (F : ℕ → View → Type 0) (views : List View) (pass : ℕ) (w : View) → F pass w → ((j : ℕ) (u : View) → j ≢ pass → get_elem? views j ≡ some u → F j u) → Each F (set views pass w)
each_set F views pass w mine others j u e =
    ⊎_elim (λ (x : (j ≡ pass) × (w ≡ u)). subst (λ (y : ℕ × View). F y.0 y.1) (λ i. (sym x.0 i, x.1 i)) mine)
    (λ (x : (j ≢ pass) × (get_elem? views j ≡ some u)). others j u x.0 x.1) (at_set views pass j w u e)

-- a list has nothing at its length
past_end : (views : List View) (u : View) → get_elem? views (length views) ≢ some u
past_end [] u e = some-ne-none u (sym e)
past_end (v ∷ views) u e = past_end views u e

-- where a longer list has something, the shorter one has it, or it is the last
at_push : (views : List View) (v u : View) (j : ℕ) → get_elem? (views ++ v ∷ []) j ≡ some u → (get_elem? views j ≡ some u) ⊎ ((j ≡ length views) × (v ≡ u))
at_push [] v u zero e = inr (refl, some-injective v u e)
at_push [] v u (suc j) e = absurd (some-ne-none u (sym e))
at_push (x ∷ xs) v u zero e = inl e
at_push (x ∷ xs) v u (suc j) e = ⊎_elim (λ h. inl h) (λ h. inr (ap suc h.0, h.1)) (at_push xs v u j e)

-- after a new pass came
each_push : (F : ℕ → View → Type 0) (views : List View) (w : View) → Each F views → F (length views) w → Each F (views ++ w ∷ [])
each_push F views w all mine j u e =
    ⊎_elim (λ h. all j u h) (λ (h : (j ≡ length views) × (w ≡ u)). subst (λ (y : ℕ × View). F y.0 y.1) (λ i. (sym h.0 i, h.1 i)) mine) (at_push views w u j e)

-- a pass that may do nothing fits
idle_fits : (inbox : InboxState Message) (seat : ℕ → ℕ) (reader keeper pass : ℕ) → Fits inbox seat reader keeper pass idle_view
idle_fits inbox seat reader keeper pass = record {
  if_sends = λ no. absurd (true≢false (sym no));
  if_takes = λ no. absurd (true≢false (sym no));
  if_keeps = λ no. absurd (true≢false (sym no));
}

-- a sender's pass and the keeper's fit as they did, whatever waits and was got, and whatever the pass knows of that
module _ (inbox : InboxState Message) (queue got : List Message) (seat : ℕ → ℕ) (pass : ℕ) (v : View) where
  sender_stays : (takes : Bool) (taken : List Message) → FitsSender inbox seat pass v → FitsSender (record inbox { queue = queue; got = got }) seat pass (record v { takes = takes; got = taken })
  sender_stays takes taken fits = record { made = fits.made; seated = fits.seated; same_capacity = fits.same_capacity; same_sent = fits.same_sent }

  keeper_stays : (keeper : ℕ) (takes : Bool) (sent taken : List Message) → FitsKeeper inbox seat keeper pass v
      → FitsKeeper (record inbox { queue = queue; got = got }) seat keeper pass (record v { takes = takes; sent = sent; got = taken })
  keeper_stays keeper takes sent taken fits = record {
    is_keeper = fits.is_keeper;
    same_capacity = fits.same_capacity;
    same_senders = fits.same_senders;
    seats_to_come = fits.seats_to_come;
    seats_returned = fits.seats_returned;
    same_returned = fits.same_returned;
    returned_made = fits.returned_made;
  }

-- the channel begins as an inbox without senders in which nothing may wait
pub begins : IsInboxOf [] (first_view ∷ [])
begins = record {
  inbox = new_inbox 0 0;
  seat = λ _. 0;
  reader = 0;
  keeper = 0;
  is_inbox = IsInbox-new_inbox sender_of is_end 0 0;
  waits = refl;
  fits = each_push (Fits (new_inbox 0 0) (λ _. 0) 0 0) [] first_view (λ j u e. absurd (some-ne-none u (sym e))) record {
    if_sends = λ no. absurd (true≢false (sym no));
    if_takes = λ _. record { is_reader = refl; same_got = refl };
    if_keeps = λ _. record {
      is_keeper = refl;
      same_capacity = refl;
      same_senders = refl;
      seats_to_come = λ s _. refl;
      seats_returned = λ s less. refl;
      same_returned = λ s less. absurd (omega arith);
      returned_made = omega arith;
    };
  };
}

-- a sender sends
pub sends : (n pass : ℕ) (v : View) (message : Message) → v.sends ≡ true → message.sender ≡ v.sender → list_any is_end v.sent ≡ false → n ≡ v.capacity
    → Pushes IsInboxOf n pass v message (Sends v message)
sends n pass v message may from running room items views free h at = (w, after, refl)
  where
    w : View
    w = record v { sent = v.sent ++ message ∷ [] }

    mine : FitsSender h.inbox h.seat pass v
    mine = (h.fits pass v at).if_sends may

    next : InboxState Message
    next = with_sent sender_of h.inbox message

    of_mine : sent_by h.inbox message.sender ≡ v.sent
    of_mine = ap (sent_by h.inbox) from ∙ sym mine.same_sent

    receiver_fits : (j : ℕ) (u : View) → FitsReceiver h.inbox h.seat h.reader j u → FitsReceiver next h.seat h.reader j u
    receiver_fits j u theirs = record { is_reader = theirs.is_reader; same_got = theirs.same_got }

    keeper_fits : (j : ℕ) (u : View) → FitsKeeper h.inbox h.seat h.keeper j u → FitsKeeper next h.seat h.keeper j u
    keeper_fits j u theirs = record {
      is_keeper = theirs.is_keeper;
      same_capacity = theirs.same_capacity;
      same_senders = theirs.same_senders;
      seats_to_come = theirs.seats_to_come;
      seats_returned = theirs.seats_returned;
      same_returned = λ s less. theirs.same_returned s less ∙ sym (sent_by-with_sent_other sender_of h.inbox message s
          (λ (same : message.sender ≡ s). absurd (omega (arith, ap h.seat (sym from ∙ same), mine.seated, theirs.seats_returned s less))));
      returned_made = theirs.returned_made;
    }

    others : (j : ℕ) (u : View) → j ≢ pass → get_elem? views j ≡ some u → Fits next h.seat h.reader h.keeper j u
    others j u other e = let theirs = h.fits j u e in record {
      if_sends = λ yes. let s = theirs.if_sends yes in
          let apart : message.sender ≢ u.sender = λ (same : message.sender ≡ u.sender). other (omega (arith, ap h.seat (sym from ∙ same), mine.seated, s.seated)) in record {
            made = s.made;
            seated = s.seated;
            same_capacity = s.same_capacity;
            same_sent = s.same_sent ∙ sym (sent_by-with_sent_other sender_of h.inbox message u.sender apart);
          };
      if_takes = λ yes. receiver_fits j u (theirs.if_takes yes);
      if_keeps = λ yes. keeper_fits j u (theirs.if_keeps yes);
    }

    after : IsInboxOf (items ++ message ∷ []) (set views pass w)
    after = record {
      inbox = next;
      seat = h.seat;
      reader = h.reader;
      keeper = h.keeper;
      is_inbox =
          IsInbox-with_sent sender_of is_end h.inbox message h.is_inbox (omega (arith, mine.made)) (ap (list_any is_end) of_mine ∙ running)
          (omega (arith, mine.same_capacity, ap length h.waits));
      waits = ap (λ l. l ++ message ∷ []) h.waits;
      fits = each_set (Fits next h.seat h.reader h.keeper) views pass w record {
        if_sends = λ _. record {
          made = mine.made;
          seated = mine.seated;
          same_capacity = mine.same_capacity;
          same_sent = ap (λ l. l ++ message ∷ []) (sym of_mine) ∙ sym (sent_by-with_sent_same sender_of h.inbox message (omega (arith, mine.made, h.is_inbox.lists))) ∙ ap (sent_by next) from;
        };
        if_takes = λ yes. receiver_fits pass w (let r = (h.fits pass v at).if_takes yes in record { is_reader = r.is_reader; same_got = r.same_got });
        if_keeps = λ yes. keeper_stays next next.queue next.got h.seat pass v h.keeper w.takes w.sent w.got (keeper_fits pass v ((h.fits pass v at).if_keeps yes));
      } others;
    }

-- the receiver takes
pub takes : (pass : ℕ) (v : View) → v.takes ≡ true → Pops IsInboxOf pass v (Takes v)
takes pass v may message items views h at = (w, after, refl)
  where
    w : View
    w = record v { got = v.got ++ message ∷ [] }

    mine : FitsReceiver h.inbox h.seat h.reader pass v
    mine = (h.fits pass v at).if_takes may

    next : InboxState Message
    next = with_taken h.inbox

    after : IsInboxOf items (set views pass w)
    after = record {
      inbox = next;
      seat = h.seat;
      reader = h.reader;
      keeper = h.keeper;
      is_inbox = IsInbox-with_taken sender_of is_end h.inbox h.is_inbox;
      waits = ap (drop 1) h.waits;
      fits = each_set (Fits next h.seat h.reader h.keeper) views pass w record {
        if_sends = λ yes. sender_stays h.inbox next.queue next.got h.seat pass v w.takes w.got ((h.fits pass v at).if_sends yes);
        if_takes = λ _. record {
          is_reader = mine.is_reader;
          same_got = ap (λ l. l ++ message ∷ []) mine.same_got ∙ ap (λ q. h.inbox.got ++ take 1 q) (sym h.waits);
        };
        if_keeps = λ yes. keeper_stays h.inbox next.queue next.got h.seat pass v h.keeper w.takes w.sent w.got ((h.fits pass v at).if_keeps yes);
      } (λ j u other e. let theirs = h.fits j u e in record {
        if_sends = λ yes. sender_stays h.inbox next.queue next.got h.seat j u u.takes u.got (theirs.if_sends yes);
        if_takes = λ yes. absurd (other ((theirs.if_takes yes).is_reader ∙ sym mine.is_reader));
        if_keeps = λ yes. keeper_stays h.inbox next.queue next.got h.seat j u h.keeper u.takes u.sent u.got (theirs.if_keeps yes);
      });
    }

-- the keeper lets one more message wait, before it makes a sender
pub widens : (pass : ℕ) (v : View) → v.keeps ≡ true → v.senders ≡ 0 → Forks IsInboxOf pass v (with_more_capacity v) idle_view
widens pass v may none items views h at = record {
  inbox = next;
  seat = h.seat;
  reader = h.reader;
  keeper = h.keeper;
  is_inbox = record {
    lists = h.is_inbox.lists;
    within_capacity = omega (arith, h.is_inbox.within_capacity);
    senders_known = h.is_inbox.senders_known;
    in_order = h.is_inbox.in_order;
    end_is_last = h.is_inbox.end_is_last;
  };
  waits = h.waits;
  fits = each_push (Fits next h.seat h.reader h.keeper) (set views pass (with_more_capacity v)) idle_view
      (each_set (Fits next h.seat h.reader h.keeper) views pass (with_more_capacity v) record {
        if_sends = λ yes. absurd (omega (arith, ((h.fits pass v at).if_sends yes).made, mine.same_senders, none));
        if_takes = λ yes. let r = (h.fits pass v at).if_takes yes in record { is_reader = r.is_reader; same_got = r.same_got };
        if_keeps = λ _. record {
          is_keeper = mine.is_keeper;
          same_capacity = ap (λ n. n + 1) mine.same_capacity;
          same_senders = mine.same_senders;
          seats_to_come = mine.seats_to_come;
          seats_returned = mine.seats_returned;
          same_returned = mine.same_returned;
          returned_made = mine.returned_made;
        };
      } (λ j u other e. let theirs = h.fits j u e in record {
        if_sends = λ yes. absurd (omega (arith, (theirs.if_sends yes).made, mine.same_senders, none));
        if_takes = λ yes. record { is_reader = (theirs.if_takes yes).is_reader; same_got = (theirs.if_takes yes).same_got };
        if_keeps = λ yes. absurd (other ((theirs.if_keeps yes).is_keeper ∙ sym mine.is_keeper));
      }))
      (idle_fits next h.seat h.reader h.keeper (length (set views pass (with_more_capacity v))));
}
  where
    mine : FitsKeeper h.inbox h.seat h.keeper pass v
    mine = (h.fits pass v at).if_keeps may

    next : InboxState Message
    next = record h.inbox { capacity = h.inbox.capacity + 1 }

-- the keeper makes the next sender
pub makes_sender : (pass : ℕ) (v : View) → v.keeps ≡ true → Forks IsInboxOf pass v (with_next_sender v) (next_sender_view v)
makes_sender pass v may items views h at = record {
  inbox = next;
  seat = seats;
  reader = h.reader;
  keeper = h.keeper;
  is_inbox = record {
    lists = length_push h.inbox.sent [] ∙ ap (λ n. n + 1) h.is_inbox.lists;
    within_capacity = h.is_inbox.within_capacity;
    senders_known = All-weaker (λ m. m.sender < h.inbox.senders) (λ m. m.sender < h.inbox.senders + 1) (λ m below. omega arith) (h.inbox.got ++ h.inbox.queue) h.is_inbox.senders_known;
    in_order = λ s. h.is_inbox.in_order s ∙ sym (same s);
    end_is_last = λ s. subst (AllPairs (λ earlier later. is_end earlier ≡ false)) (sym (same s)) (h.is_inbox.end_is_last s);
  };
  waits = h.waits;
  fits = each_push (Fits next seats h.reader h.keeper) (set views pass (with_next_sender v)) (next_sender_view v)
      (each_set (Fits next seats h.reader h.keeper) views pass (with_next_sender v) record {
        if_sends = λ yes. let s = (h.fits pass v at).if_sends yes in record {
          made = omega (arith, s.made);
          seated = seats_other v.sender (λ (e : v.sender ≡ h.inbox.senders). omega (arith, s.made)) ∙ s.seated;
          same_capacity = s.same_capacity;
          same_sent = s.same_sent ∙ sym (same v.sender);
        };
        if_takes = λ yes. let r = (h.fits pass v at).if_takes yes in record { is_reader = r.is_reader; same_got = r.same_got };
        if_keeps = λ _. record {
          is_keeper = mine.is_keeper;
          same_capacity = mine.same_capacity;
          same_senders = ap (λ n. n + 1) mine.same_senders;
          seats_to_come = λ s past. seats_other s (λ (e : s ≡ h.inbox.senders). omega arith) ∙ mine.seats_to_come s (omega arith);
          seats_returned = λ s less. seats_other s (λ (e : s ≡ h.inbox.senders). omega (arith, mine.returned_made)) ∙ mine.seats_returned s less;
          same_returned = λ s less. mine.same_returned s less ∙ sym (same s);
          returned_made = omega (arith, mine.returned_made);
        };
      } (λ j u other e. let theirs = h.fits j u e in record {
        if_sends = λ yes. let s = theirs.if_sends yes in record {
          made = omega (arith, s.made);
          seated = seats_other u.sender (λ (e : u.sender ≡ h.inbox.senders). omega (arith, s.made)) ∙ s.seated;
          same_capacity = s.same_capacity;
          same_sent = s.same_sent ∙ sym (same u.sender);
        };
        if_takes = λ yes. record { is_reader = (theirs.if_takes yes).is_reader; same_got = (theirs.if_takes yes).same_got };
        if_keeps = λ yes. absurd (other ((theirs.if_keeps yes).is_keeper ∙ sym mine.is_keeper));
      }))
      record {
        if_sends = λ _. record {
          made = omega (arith, mine.same_senders);
          seated = ap seats mine.same_senders ∙ seats_new ∙ ap (λ n. n + 1) (sym (length-set views pass (with_next_sender v)));
          same_capacity = mine.same_capacity;
          same_sent = sym (ap (sent_by next) mine.same_senders ∙ get_or_push h.inbox.sent [] [] h.inbox.senders h.is_inbox.lists);
        };
        if_takes = λ yes. absurd (true≢false (sym yes));
        if_keeps = λ yes. absurd (true≢false (sym yes));
      };
}
  where
    mine : FitsKeeper h.inbox h.seat h.keeper pass v
    mine = (h.fits pass v at).if_keeps may

    next : InboxState Message
    next = record h.inbox { senders = h.inbox.senders + 1; sent = h.inbox.sent ++ [] ∷ [] }

    seats : ℕ → ℕ
    seats s = cond (eqb s h.inbox.senders) (length views + 1) (h.seat s)

    seats_new : seats h.inbox.senders ≡ length views + 1
    seats_new = ap (λ (b : Bool). cond b (length views + 1) (h.seat h.inbox.senders)) (eq-eqb h.inbox.senders h.inbox.senders refl)

    seats_other : (s : ℕ) → s ≢ h.inbox.senders → seats s ≡ h.seat s
    seats_other s other = ap (λ (b : Bool). cond b (length views + 1) (h.seat s)) (ne_eqb s h.inbox.senders other)

    same : (s : ℕ) → sent_by next s ≡ sent_by h.inbox s
    same s =
        ⊎_elim (λ (below : s < length h.inbox.sent). get_or_append_left h.inbox.sent ([] ∷ []) [] s below)
        (λ (past : length h.inbox.sent ≤ s). ⊎_elim (λ (further : length h.inbox.sent < s). get_or_past (h.inbox.sent ++ [] ∷ []) s [] (omega (arith, length_push h.inbox.sent [])) ∙ sym (get_or_past h.inbox.sent s [] past))
        (λ (here : s ≤ length h.inbox.sent). get_or_push h.inbox.sent [] [] s (omega arith) ∙ sym (get_or_past h.inbox.sent s [] past))
        (cases_lt (length h.inbox.sent) s)) (cases_lt s (length h.inbox.sent))

-- the keeper gives the taking away
pub gives_receiver : (pass : ℕ) (v : View) → v.takes ≡ true → Forks IsInboxOf pass v (without_receiver v) (receiver_view v.got)
gives_receiver pass v may items views h at = record {
  inbox = h.inbox;
  seat = h.seat;
  reader = length views;
  keeper = h.keeper;
  is_inbox = h.is_inbox;
  waits = h.waits;
  fits = each_push (Fits h.inbox h.seat (length views) h.keeper) (set views pass (without_receiver v)) (receiver_view v.got)
      (each_set (Fits h.inbox h.seat (length views) h.keeper) views pass (without_receiver v) record {
        if_sends = λ yes. sender_stays h.inbox h.inbox.queue h.inbox.got h.seat pass v false [] ((h.fits pass v at).if_sends yes);
        if_takes = λ yes. absurd (true≢false (sym yes));
        if_keeps = λ yes. keeper_stays h.inbox h.inbox.queue h.inbox.got h.seat pass v h.keeper false v.sent [] ((h.fits pass v at).if_keeps yes);
      } (λ j u other e. let theirs = h.fits j u e in record {
        if_sends = theirs.if_sends;
        if_takes = λ yes. absurd (other ((theirs.if_takes yes).is_reader ∙ sym mine.is_reader));
        if_keeps = theirs.if_keeps;
      }))
      record {
        if_sends = λ yes. absurd (true≢false (sym yes));
        if_takes = λ _. record { is_reader = length-set views pass (without_receiver v); same_got = mine.same_got };
        if_keeps = λ yes. absurd (true≢false (sym yes));
      };
}
  where
    mine : FitsReceiver h.inbox h.seat h.reader pass v
    mine = (h.fits pass v at).if_takes may

-- a sender comes back to the keeper, after all that were made before it
pub sender_returns : (pass : ℕ) (v : View) (other : ℕ) (w : View) → v.keeps ≡ true → w.sends ≡ true → w.sender ≡ length v.returned
    → Merges IsInboxOf pass v other w (with_returned v w.sent) idle_view
sender_returns pass v other w may sent next items views h at two at' = record {
  inbox = h.inbox;
  seat = seats;
  reader = h.reader;
  keeper = h.keeper;
  is_inbox = h.is_inbox;
  waits = h.waits;
  fits = each_set (Fits h.inbox seats h.reader h.keeper) (set views pass both) other idle_view (idle_fits h.inbox seats h.reader h.keeper other)
      (λ j u apart e. (each_set (λ j u. j ≢ other → Fits h.inbox seats h.reader h.keeper j u) views pass both (λ _. both_fits) others) j u e apart);
}
  where
    both : View
    both = with_returned v w.sent

    was : get_elem? views other ≡ some w
    was = ⊎_elim (λ x. absurd (two x.0)) (λ x. x.1) (at_set views pass other both w at')

    mine : FitsKeeper h.inbox h.seat h.keeper pass v
    mine = (h.fits pass v at).if_keeps may

    theirs : FitsSender h.inbox h.seat other w
    theirs = (h.fits other w was).if_sends sent

    seats : ℕ → ℕ
    seats s = cond (eqb s w.sender) 0 (h.seat s)

    seats_empty : (s : ℕ) → h.seat s ≡ 0 → seats s ≡ 0
    seats_empty s e = ⊎_elim (λ x. ap (λ (b : Bool). cond b 0 (h.seat s)) x.0) (λ x. ap (λ (b : Bool). cond b 0 (h.seat s)) x.0 ∙ e) (eqb_tells s w.sender)

    seats_other : (s : ℕ) → s ≢ w.sender → seats s ≡ h.seat s
    seats_other s differ = ap (λ (b : Bool). cond b 0 (h.seat s)) (ne_eqb s w.sender differ)

    both_fits : Fits h.inbox seats h.reader h.keeper pass both
    both_fits = record {
      if_sends = λ yes. let s = (h.fits pass v at).if_sends yes in record {
        made = s.made;
        seated = seats_other v.sender (λ (same : v.sender ≡ w.sender). two (omega (arith, ap h.seat same, s.seated, theirs.seated))) ∙ s.seated;
        same_capacity = s.same_capacity;
        same_sent = s.same_sent;
      };
      if_takes = λ yes. let r = (h.fits pass v at).if_takes yes in record { is_reader = r.is_reader; same_got = r.same_got };
      if_keeps = λ _. record {
        is_keeper = mine.is_keeper;
        same_capacity = mine.same_capacity;
        same_senders = mine.same_senders;
        seats_to_come = λ s past. seats_empty s (mine.seats_to_come s past);
        seats_returned = λ s less. ⊎_elim (λ (below : s < length v.returned). seats_empty s (mine.seats_returned s below))
            (λ (past : length v.returned ≤ s). let here : s ≡ w.sender = omega (arith, length_push v.returned w.sent) in
            ap (λ (b : Bool). cond b 0 (h.seat s)) (eq-eqb s w.sender here)) (cases_lt s (length v.returned));
        same_returned = λ s less. ⊎_elim (λ (below : s < length v.returned). get_or_append_left v.returned (w.sent ∷ []) [] s below ∙ mine.same_returned s below)
            (λ (past : length v.returned ≤ s). let here : s ≡ w.sender = omega (arith, length_push v.returned w.sent) in
            get_or_push v.returned w.sent [] s (sym next ∙ sym here) ∙ theirs.same_sent ∙ ap (sent_by h.inbox) (sym here)) (cases_lt s (length v.returned));
        returned_made = omega (arith, length_push v.returned w.sent, theirs.made);
      };
    }

    others : (j : ℕ) (u : View) → j ≢ pass → get_elem? views j ≡ some u → j ≢ other → Fits h.inbox seats h.reader h.keeper j u
    others j u differ e apart = let fit = h.fits j u e in record {
      if_sends = λ yes. let s = fit.if_sends yes in record {
        made = s.made;
        seated = seats_other u.sender (λ (same : u.sender ≡ w.sender). apart (omega (arith, ap h.seat same, s.seated, theirs.seated))) ∙ s.seated;
        same_capacity = s.same_capacity;
        same_sent = s.same_sent;
      };
      if_takes = λ yes. record { is_reader = (fit.if_takes yes).is_reader; same_got = (fit.if_takes yes).same_got };
      if_keeps = λ yes. absurd (differ ((fit.if_keeps yes).is_keeper ∙ sym mine.is_keeper));
    }

-- the receiver comes back to the keeper
pub receiver_returns : (pass : ℕ) (v : View) (other : ℕ) (w : View) → w.takes ≡ true → Merges IsInboxOf pass v other w (with_receiver v w.got) idle_view
receiver_returns pass v other w taking items views h at two at' = record {
  inbox = h.inbox;
  seat = h.seat;
  reader = pass;
  keeper = h.keeper;
  is_inbox = h.is_inbox;
  waits = h.waits;
  fits = each_set (Fits h.inbox h.seat pass h.keeper) (set views pass both) other idle_view (idle_fits h.inbox h.seat pass h.keeper other)
      (λ j u apart e. (each_set (λ j u. j ≢ other → Fits h.inbox h.seat pass h.keeper j u) views pass both (λ _. both_fits) others) j u e apart);
}
  where
    both : View
    both = with_receiver v w.got

    was : get_elem? views other ≡ some w
    was = ⊎_elim (λ x. absurd (two x.0)) (λ x. x.1) (at_set views pass other both w at')

    theirs : FitsReceiver h.inbox h.seat h.reader other w
    theirs = (h.fits other w was).if_takes taking

    both_fits : Fits h.inbox h.seat pass h.keeper pass both
    both_fits = record {
      if_sends = λ yes. sender_stays h.inbox h.inbox.queue h.inbox.got h.seat pass v true w.got ((h.fits pass v at).if_sends yes);
      if_takes = λ _. record { is_reader = refl; same_got = theirs.same_got };
      if_keeps = λ yes. keeper_stays h.inbox h.inbox.queue h.inbox.got h.seat pass v h.keeper true v.sent w.got ((h.fits pass v at).if_keeps yes);
    }

    others : (j : ℕ) (u : View) → j ≢ pass → get_elem? views j ≡ some u → j ≢ other → Fits h.inbox h.seat pass h.keeper j u
    others j u differ e apart = let fit = h.fits j u e in record {
      if_sends = fit.if_sends;
      if_takes = λ yes. absurd (apart ((fit.if_takes yes).is_reader ∙ sym theirs.is_reader));
      if_keeps = fit.if_keeps;
    }

-- the keeper to which every pass came back knows the inbox
pub learns : (pass : ℕ) (v : View) → v.keeps ≡ true → v.takes ≡ true → length v.returned ≡ v.senders → Learns IsInboxOf pass v (IsWholeInbox v)
learns pass v keeping taking all items views h at =
    subst (IsInbox sender_of is_end) (λ i. record { senders = sym mine.same_senders i; capacity = sym mine.same_capacity i; sent = sym lists i; queue = h.waits i; got = sym reads.same_got i }) h.is_inbox
  where
    mine : FitsKeeper h.inbox h.seat h.keeper pass v
    mine = (h.fits pass v at).if_keeps keeping

    reads : FitsReceiver h.inbox h.seat h.reader pass v
    reads = (h.fits pass v at).if_takes taking

    lists : v.returned ≡ h.inbox.sent
    lists = ext_get_or [] v.returned h.inbox.sent (all ∙ mine.same_senders ∙ sym h.is_inbox.lists) mine.same_returned
