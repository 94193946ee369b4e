-- A cell takes a message more.
use Rattle.std.proofs.Common.{◌≡◌, ℕ, ◌||◌, Bool, true, false, List, [], ◌∷◌, ◌++◌, set, Result, Ok, Err, refl, sym, ◌∙◌, ap, subst, ⊎_elim, append-nil, arith, get_or-set_other, length-set}
use Rattle.std.specs.Prelude.{IfOk, IsOkAnd, option_map}
use Rattle.std.specs.List.{list_any}
use Rattle.std.proofs.lemmas.Bool.Decides.{eqb_tells}
use Rattle.std.proofs.lemmas.List.Elements.{filter_map-append}
use Rattle.std.proofs.lemmas.List.Folds.{list_any-append}
use Rattle.rel_base.specs.declared.failure.Memory.{Memory}
use Rattle.shuffle_core.specs.Inbox.{of_sender}
use Rattle.shuffle_core.proofs.InboxLemmas.{of_sender-push_same, of_sender-push_other}
use Rattle.exchange_channels.specs.declared.messages.Batch.{Batch}
use Rattle.exchange_channels.specs.declared.messages.Message.{Message}
use Rattle.exchange_channels.specs.Messages.{sender_of, is_end, batch_of, end_of, drained_of}
use Rattle.exchange_channels.specs.inner.CellRule.{with_taken}
use Rattle.exchange_channels.specs.Ports.{PortState}
use Rattle.exchange_channels.specs.inner.Intakes.{IsTaking}

drained_of-batch : (got : List Message) (sender : ℕ) (batch : Batch) → drained_of (got ++ batch_of sender batch ∷ []) ≡ drained_of got ++ (sender, batch) ∷ []
drained_of-batch got sender batch = filter_map-append (λ (m : Message). option_map (λ b. (m.sender, b)) m.batch) got (batch_of sender batch ∷ [])

drained_of-end : (got : List Message) (sender : ℕ) → drained_of (got ++ end_of sender ∷ []) ≡ drained_of got
drained_of-end got sender = filter_map-append (λ (m : Message). option_map (λ b. (m.sender, b)) m.batch) got (end_of sender ∷ []) ∙ append-nil (drained_of got)

-- an end mark that was taken stays among what was taken
end_stays : (s : ℕ) (got : List Message) (message : Message) → list_any is_end (of_sender sender_of s got) ≡ true → list_any is_end (of_sender sender_of s (got ++ message ∷ [])) ≡ true
end_stays s got message there = ⊎_elim
    (λ e. ap (list_any is_end) (of_sender-push_same sender_of got message s e.1) ∙ list_any-append is_end (of_sender sender_of s got) (message ∷ [])
    ∙ ap (λ (b : Bool). b || list_any is_end (message ∷ [])) there)
    (λ e. ap (list_any is_end) (of_sender-push_other sender_of got message s e.1) ∙ there) (eqb_tells message.sender s)

-- the end mark of a sender is among what was taken once it was taken
end_there : (s : ℕ) (got : List Message) → list_any is_end (of_sender sender_of s (got ++ end_of s ∷ [])) ≡ true
end_there s got =
    ap (list_any is_end) (of_sender-push_same sender_of got (end_of s) s refl) ∙ list_any-append is_end (of_sender sender_of s got) (end_of s ∷ [])
    ∙ or-true (list_any is_end (of_sender sender_of s got))
  where
    or-true : (b : Bool) → (b || true) ≡ true
    or-true true = refl
    or-true false = refl

module _ (port : PortState) (ended : List Bool) (drained : Result (List (ℕ × Batch)) Memory) (sender : ℕ) where
  -- a batch was taken
  pub IsTaking-batch : (batch : Batch) (r : Result (List (ℕ × Batch)) Memory) → IsTaking (record { port = port; ended = ended; drained = drained })
      → IfOk r (λ now. IsOkAnd drained (λ before. now ≡ before ++ (sender, batch) ∷ []))
      → IsTaking (record { port = record port { knows = with_taken port.knows (batch_of sender batch) }; ended = ended; drained = r })
  IsTaking-batch batch r kept more = record {
    ends_taken = λ s below noted. end_stays s port.knows.got (batch_of sender batch) (kept.ends_taken s below noted);
    all_kept = by r drained more kept.all_kept;
  }
    where
      by : (r old : Result (List (ℕ × Batch)) Memory) → IfOk r (λ now. IsOkAnd old (λ before. now ≡ before ++ (sender, batch) ∷ []))
          → IfOk old (λ before. before ≡ drained_of port.knows.got) → IfOk r (λ now. now ≡ drained_of (port.knows.got ++ batch_of sender batch ∷ []))
      by (Err e) old more all = tt
      by (Ok now) (Err e) more all = absurd more
      by (Ok now) (Ok before) more all = more ∙ ap (λ l. l ++ (sender, batch) ∷ []) all ∙ sym (drained_of-batch port.knows.got sender batch)

  -- an end mark was taken
  pub IsTaking-end : IsTaking (record { port = port; ended = ended; drained = drained })
      → IsTaking (record { port = record port { knows = with_taken port.knows (end_of sender) }; ended = set ended sender true; drained = drained })
  IsTaking-end kept = record {
    ends_taken = λ s below noted. ⊎_elim
        (λ e. subst (λ t. list_any is_end (of_sender sender_of t (port.knows.got ++ end_of sender ∷ [])) ≡ true) (sym e.1) (end_there sender port.knows.got))
        (λ e. end_stays s port.knows.got (end_of sender) (kept.ends_taken s (omega (arith, length-set ended sender true)) (sym (get_or-set_other ended sender s true false e.1) ∙ noted)))
        (eqb_tells s sender);
    all_kept = by drained kept.all_kept;
  }
    where
      by : (old : Result (List (ℕ × Batch)) Memory) → IfOk old (λ before. before ≡ drained_of port.knows.got) → IfOk old (λ now. now ≡ drained_of (port.knows.got ++ end_of sender ∷ []))
      by (Err e) all = tt
      by (Ok before) all = all ∙ sym (drained_of-end port.knows.got sender)
