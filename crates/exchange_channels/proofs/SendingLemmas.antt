-- What a cell took is a permutation of what all senders sent there, and its rows are those that were drained.
use Rattle.std.proofs.Common.{◌≡◌, ◌≢◌, ℕ, zero, suc, ◌+◌, ◌<◌, ◌≤◌, Bool, true, false, true≢false, not, eqb, cond, List, [], ◌∷◌, ◌++◌, length, get_or, map, All, Option, Some, None, refl, sym, ◌∙◌, ap, subst, ⊎_elim, arith, append-nil}
use Rattle.std.specs.Prelude.{filter, IsPermutation}
use Rattle.std.specs.List.{flat_map, range_with_len}
use Rattle.std.proofs.lemmas.Bool.{ne_eqb, cases_lt}
use Rattle.std.proofs.lemmas.Bool.Decides.{eqb_tells}
use Rattle.std.proofs.lemmas.List.{get_or-map, length-map}
use Rattle.std.proofs.lemmas.List.Concat.{flat_map-cons}
use Rattle.std.proofs.lemmas.List.Elements.{All-filter, filter_passes}
use Rattle.std.proofs.lemmas.List.Folds.{flat_map-map}
use Rattle.std.proofs.lemmas.List.FromFn.{get_or-map-range_with_len, length-map-range_with_len, map-range_with_len_more, fill_by_all}
use Rattle.std.proofs.lemmas.List.Sorted.{IsPermutation-refl, IsPermutation-trans, IsPermutation-append_left, IsPermutation-filter_both}
use Rattle.std.proofs.lemmas.Grind.{flat_map-append}
use Rattle.shuffle_core.specs.Inbox.{of_sender}
use Rattle.exchange_channels.specs.declared.messages.Batch.{Batch}
use Rattle.exchange_channels.specs.declared.messages.Message.{Message}
use Rattle.exchange_channels.specs.Messages.{sender_of, batches_of, drained_of, batch_rows, rows_of_atom, drained_rows}
use Rattle.exchange_channels.specs.Wirings.{OutletState, IntakeState, sent_to, all_sent_to, IsDelivered}
use Rattle.exchange_channels.proofs.DeliveryLemmas.{element}

-- ---- rows

-- one message more in front, where it has a batch and where it has none
drained_rows-cons : (atom sender : ℕ) (b : Option Batch) (got : List Message) → drained_rows atom (drained_of got) ≡ rows_of_atom atom (batches_of got)
    → drained_rows atom (drained_of (record { sender = sender; batch = b } ∷ got)) ≡ rows_of_atom atom (batches_of (record { sender = sender; batch = b } ∷ got))
drained_rows-cons atom sender None got rest = rest
drained_rows-cons atom sender (Some b) got rest =
    flat_map-cons (λ (taken : ℕ × Batch). batch_rows atom taken.1) (sender, b) (drained_of got)
    ∙ ap (λ rows. batch_rows atom b ++ rows) rest
    ∙ sym (flat_map-cons (batch_rows atom) b (batches_of got))

pub drained_rows-drained_of : (atom : ℕ) (got : List Message) → drained_rows atom (drained_of got) ≡ rows_of_atom atom (batches_of got)
drained_rows-drained_of atom [] = refl
drained_rows-drained_of atom (m ∷ got) = drained_rows-cons atom m.sender m.batch got (drained_rows-drained_of atom got)

-- ---- messages

-- without the messages of one sender, those of another are the same
without : (n s : ℕ) (xs : List Message) → s ≢ n → of_sender sender_of s (filter (λ m. not (eqb m.sender n)) xs) ≡ of_sender sender_of s xs
without n s [] other = refl
without n s (m ∷ xs) other =
    ⊎_elim
    (λ e. ap (λ (b : Bool). of_sender sender_of s (cond (not b) (m ∷ filter (λ m. not (eqb m.sender n)) xs) (filter (λ m. not (eqb m.sender n)) xs))) e.0
    ∙ without n s xs other
    ∙ ap (λ (b : Bool). cond b (m ∷ of_sender sender_of s xs) (of_sender sender_of s xs)) (sym (ne_eqb m.sender s (λ (same : m.sender ≡ s). other (sym same ∙ e.1)))))
    (λ e. ap (λ (b : Bool). of_sender sender_of s (cond (not b) (m ∷ filter (λ m. not (eqb m.sender n)) xs) (filter (λ m. not (eqb m.sender n)) xs))) e.0
    ∙ ap (λ l. cond (eqb m.sender s) (m ∷ l) l) (without n s xs other))
    (eqb_tells m.sender n)

-- flat maps over the same numbers by functions that agree on them
flat_map-same : (f g : ℕ → List Message) (n : ℕ) → ((s : ℕ) → s < n → f s ≡ g s) → flat_map f (range_with_len 0 n) ≡ flat_map g (range_with_len 0 n)
flat_map-same f g n same =
    sym (flat_map-map (λ l. l) f (range_with_len 0 n))
    ∙ ap (λ lists. flat_map (λ l. l) lists)
    (fill_by_all g (map f (range_with_len 0 n)) n [] (length-map-range_with_len f 0 n) (λ k below. get_or-map-range_with_len f 0 n k k [] below (omega arith) ∙ same k below))
    ∙ flat_map-map (λ l. l) g (range_with_len 0 n)

flat_map-range_more : (f : ℕ → List Message) (n : ℕ) → flat_map f (range_with_len 0 (n + 1)) ≡ flat_map f (range_with_len 0 n) ++ f n
flat_map-range_more f n =
    sym (flat_map-map (λ l. l) f (range_with_len 0 (n + 1)))
    ∙ ap (λ lists. flat_map (λ l. l) lists) (map-range_with_len_more f 0 n n (omega arith))
    ∙ flat_map-append (λ l. l) (map f (range_with_len 0 n)) (f n ∷ [])
    ∙ ap (λ l. l ++ flat_map (λ l. l) (f n ∷ [])) (flat_map-map (λ l. l) f (range_with_len 0 n))
    ∙ ap (λ l. flat_map f (range_with_len 0 n) ++ l) (flat_map-cons (λ l. l) (f n) [] ∙ append-nil (f n))

not-not : (b : Bool) → b ≡ not (not b)
not-not true = refl
not-not false = refl

-- without the messages of sender n, messages of the first n + 1 senders are of the first n
below_without : (n : ℕ) (xs : List Message) → All (λ m. m.sender < n + 1) xs → All (λ m. m.sender < n) (filter (λ m. not (eqb m.sender n)) xs)
below_without n xs all k d below =
    let less : (get_or (filter (λ m. not (eqb m.sender n)) xs) k d).sender < n + 1 = All-filter (λ m. not (eqb m.sender n)) (λ m. m.sender < n + 1) xs all k d below in
    let passes : not (eqb (get_or (filter (λ m. not (eqb m.sender n)) xs) k d).sender n) ≡ true = filter_passes (λ m. not (eqb m.sender n)) xs k d below in
    ⊎_elim
    (λ e. let absurdity : false ≡ true = ap not (sym e.0) ∙ passes in absurd (true≢false (sym absurdity)))
    (λ e. apart less e.1) (eqb_tells (get_or (filter (λ m. not (eqb m.sender n)) xs) k d).sender n)
  where
    apart : {a : ℕ} → a < n + 1 → a ≢ n → a < n
    apart {a} less other = ⊎_elim (λ (l : a < n). l) (λ (l : n ≤ a). let same : a ≡ n = omega arith in absurd (other same)) (cases_lt a n)

-- messages of the first n senders are, in some order, those of each of them, one after another
by_senders : (n : ℕ) (xs : List Message) → All (λ m. m.sender < n) xs → IsPermutation xs (flat_map (λ s. of_sender sender_of s xs) (range_with_len 0 n))
by_senders zero [] all = IsPermutation-refl []
by_senders zero (m ∷ xs) all = let none : m.sender < 0 = all 0 m (omega arith) in absurd (omega arith)
by_senders (suc n) xs all =
    let more : suc n ≡ n + 1 = omega arith in
    let rest = filter (λ (m : Message). not (eqb m.sender n)) xs in
    let mine = of_sender sender_of n xs in
    let below : All (λ (m : Message). m.sender < n) rest = below_without n xs (subst (λ (k : ℕ). All (λ (m : Message). m.sender < k) xs) more all) in
    let same : flat_map (λ s. of_sender sender_of s rest) (range_with_len 0 n) ≡ flat_map (λ s. of_sender sender_of s xs) (range_with_len 0 n) =
    flat_map-same (λ s. of_sender sender_of s rest) (λ s. of_sender sender_of s xs) n (λ s less. without n s xs (λ (e : s ≡ n). omega arith)) in
    let front : IsPermutation rest (flat_map (λ s. of_sender sender_of s xs) (range_with_len 0 n)) = subst (IsPermutation rest) same (by_senders n rest below) in
    subst (λ (k : ℕ). IsPermutation xs (flat_map (λ s. of_sender sender_of s xs) (range_with_len 0 k))) (sym more)
    (subst (IsPermutation xs) (sym (flat_map-range_more (λ s. of_sender sender_of s xs) n))
    (IsPermutation-trans xs (rest ++ mine) (flat_map (λ s. of_sender sender_of s xs) (range_with_len 0 n) ++ mine)
    (IsPermutation-filter_both (λ (m : Message). not (eqb m.sender n)) (λ (m : Message). eqb m.sender n) (λ m. not-not (eqb m.sender n)) xs)
    (IsPermutation-append_left mine rest (flat_map (λ s. of_sender sender_of s xs) (range_with_len 0 n)) front)))

pub took_all_sent : (outs : List OutletState) (taken : IntakeState) → IsDelivered outs taken → IsPermutation taken.got (all_sent_to outs taken.cell)
took_all_sent outs taken delivered =
    let lists : map (λ out. sent_to out taken.cell) outs ≡ map (λ s. of_sender sender_of s taken.got) (range_with_len 0 (length outs)) =
    fill_by_all (λ s. of_sender sender_of s taken.got) (map (λ out. sent_to out taken.cell) outs) (length outs) [] (length-map outs (λ (out : OutletState). sent_to out taken.cell))
    (λ k below. let d = element outs k below in
    get_or-map (λ (out : OutletState). sent_to out taken.cell) outs k d [] below ∙ sym (delivered.all_taken k d below)) in
    subst (IsPermutation taken.got)
    (sym (flat_map-map (λ l. l) (λ s. of_sender sender_of s taken.got) (range_with_len 0 (length outs)))
    ∙ ap (λ ls. flat_map (λ l. l) ls) (sym lists)
    ∙ flat_map-map (λ l. l) (λ (out : OutletState). sent_to out taken.cell) outs)
    (by_senders (length outs) taken.got delivered.no_stranger)
