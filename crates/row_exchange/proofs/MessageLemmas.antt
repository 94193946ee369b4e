-- Rows of messages, atom by atom.
use Rattle.std.proofs.Common.{◌≡◌, ◌==◌, ℕ, zero, suc, ◌+◌, ◌*◌, ◌<◌, Bool, true, false, cond, List, [], ◌∷◌, ◌++◌, length, map, get_or, All, Option, Some, None, Result, Ok, Err, refl, sym, ap, ◌∙◌, subst, arith, length-append, ◌⊎◌, inl, inr}
use Rattle.std.specs.Prelude.{sum_by, IsPermutation, IfOk, OnOk}
use Rattle.std.specs.List.{flat_map, range_with_len}
use Rattle.std.proofs.lemmas.List.{length-map, get_or-map}
use Rattle.std.proofs.lemmas.List.FromFn.{fill_by_all}
use Rattle.std.proofs.lemmas.List.Folds.{flat_map-map}
use Rattle.std.proofs.lemmas.List.Concat.{flat_map-cons}
use Rattle.std.proofs.lemmas.List.Sums.{sum_by-cons}
use Rattle.std.proofs.lemmas.List.Elements.{All-head, All-tail}
use Rattle.std.proofs.lemmas.Grind.{flat_map-append}
use Rattle.rel_base.specs.declared.failure.Memory.{Memory}
use Rattle.exchange_channels.specs.declared.messages.Batch.{Batch}
use Rattle.exchange_channels.specs.declared.messages.Message.{Message}
use Rattle.exchange_channels.specs.Messages.{batches_of, batch_rows, row_count, rows_of, rows_of_atom}
use Rattle.row_exchange.specs.Routes.{Rows}
use Rattle.row_exchange.specs.Exchanges.{IsBatch}
use Rattle.row_exchange.specs.inner.Gatherings.{both}
use Rattle.row_exchange.proofs.SumLemmas.{sum_by-range_same, sum_by-range_add, sum_by-range_once, sum_by-range_zero, flat_map-permuted}

-- the rows of an atom in one message
message_rows : ℕ → Option Batch → Rows
message_rows atom None = []
message_rows atom (Some b) = batch_rows atom b

rows-of-messages-step : (atom : ℕ) (ms : List Message) (s : ℕ) (b : Option Batch) → rows_of_atom atom (batches_of ms) ≡ flat_map (λ (m : Message). message_rows atom m.batch) ms
    → rows_of_atom atom (batches_of (record { sender = s; batch = b } ∷ ms)) ≡ flat_map (λ (m : Message). message_rows atom m.batch) (record { sender = s; batch = b } ∷ ms)
unfolding message_rows
rows-of-messages-step atom ms s None rest = rest ∙ sym (flat_map-cons (λ (m : Message). message_rows atom m.batch) (record { sender = s; batch = None }) ms)
rows-of-messages-step atom ms s (Some b) rest =
    flat_map-cons (batch_rows atom) b (batches_of ms) ∙ ap (λ l. batch_rows atom b ++ l) rest
    ∙ sym (flat_map-cons (λ (m : Message). message_rows atom m.batch) (record { sender = s; batch = Some b }) ms)

rows-of-messages : (atom : ℕ) (ms : List Message) → rows_of_atom atom (batches_of ms) ≡ flat_map (λ (m : Message). message_rows atom m.batch) ms
rows-of-messages atom [] = refl
rows-of-messages atom (m ∷ ms) = rows-of-messages-step atom ms m.sender m.batch (rows-of-messages atom ms)

pub rows-permuted : (atom : ℕ) (xs ys : List Message) → IsPermutation xs ys → IsPermutation (rows_of_atom atom (batches_of xs)) (rows_of_atom atom (batches_of ys))
rows-permuted atom xs ys h =
    subst (λ (x : Rows × Rows). IsPermutation x.0 x.1) (λ i. (sym (rows-of-messages atom xs) i, sym (rows-of-messages atom ys) i))
    (flat_map-permuted (λ (m : Message). message_rows atom m.batch) xs ys h)

pub rows-of-all : {X : Type 0} (atom : ℕ) (f : X → List Message) (xs : List X) → rows_of_atom atom (batches_of (flat_map f xs)) ≡ flat_map (λ x. rows_of_atom atom (batches_of (f x))) xs
rows-of-all atom f [] = refl
rows-of-all atom f (x ∷ xs) =
    let g : Message → Rows = λ (m : Message). message_rows atom m.batch in
    rows-of-messages atom (flat_map f (x ∷ xs)) ∙ ap (flat_map g) (flat_map-cons f x xs) ∙ flat_map-append g (f x) (flat_map f xs)
    ∙ (λ i. sym (rows-of-messages atom (f x)) i ++ (sym (rows-of-messages atom (flat_map f xs)) ∙ rows-of-all atom f xs) i)
    ∙ sym (flat_map-cons (λ x. rows_of_atom atom (batches_of (f x))) x xs)

pub flat_map-places : {X : Type 0} (f : X → Rows) (g : ℕ → Rows) (xs : List X) (d : X) (n : ℕ) → length xs ≡ n → ((k : ℕ) → k < n → f (get_or xs k d) ≡ g k) → flat_map f xs ≡ flat_map g (range_with_len 0 n)
flat_map-places f g xs d n long same =
    sym (flat_map-map (λ (l : Rows). l) f xs)
    ∙ ap (flat_map (λ (l : Rows). l)) (fill_by_all g (map f xs) n [] (length-map xs f ∙ long) (λ k below. get_or-map f xs k d [] (omega (arith, below, long)) ∙ same k below))
    ∙ flat_map-map (λ (l : Rows). l) g (range_with_len 0 n)

length-cond : (b : Bool) (rows : Rows) → length (cond b rows []) ≡ cond b (length rows) 0
length-cond true rows = refl
length-cond false rows = refl

batch-by-atom : (atoms most : ℕ) (b : Batch) → IsBatch atoms most b → sum_by (λ a. length (batch_rows a b)) (range_with_len 0 atoms) ≡ length b.rows
batch-by-atom atoms most b is =
    sum_by-range_same (λ a. length (batch_rows a b)) (λ a. cond (b.atom == a) (length b.rows) 0) atoms (λ a below. length-cond (b.atom == a) b.rows)
    ∙ sum_by-range_once b.atom (length b.rows) atoms is.one_atom

rows-by-atom-step : (atoms most : ℕ) (ms : List Message) (s : ℕ) (b : Option Batch) → All (IsBatch atoms most) (batches_of (record { sender = s; batch = b } ∷ ms))
    → (All (IsBatch atoms most) (batches_of ms) → rows_of ms ≡ sum_by (λ a. length (rows_of_atom a (batches_of ms))) (range_with_len 0 atoms))
    → rows_of (record { sender = s; batch = b } ∷ ms) ≡ sum_by (λ a. length (rows_of_atom a (batches_of (record { sender = s; batch = b } ∷ ms)))) (range_with_len 0 atoms)
rows-by-atom-step atoms most ms s None every rest =
    let one : rows_of (record { sender = s; batch = None } ∷ ms) ≡ 0 + rows_of ms = sum_by-cons (λ (m : Message). row_count m.batch) (record { sender = s; batch = None }) ms in
    omega (arith, one, rest every)
rows-by-atom-step atoms most ms s (Some b) every rest =
    let one : rows_of (record { sender = s; batch = Some b } ∷ ms) ≡ length b.rows + rows_of ms = sum_by-cons (λ (m : Message). row_count m.batch) (record { sender = s; batch = Some b }) ms in
    omega (
      arith,
      one,
      rest (All-tail (IsBatch atoms most) b (batches_of ms) every),
      batch-by-atom atoms most b (All-head (IsBatch atoms most) b (batches_of ms) every),
      sum_by-range_add (λ a. length (batch_rows a b)) (λ a. length (rows_of_atom a (batches_of ms))) atoms,
      sum_by-range_same (λ a. length (rows_of_atom a (b ∷ batches_of ms))) (λ a. length (batch_rows a b) + length (rows_of_atom a (batches_of ms))) atoms
          (λ a below. ap length (flat_map-cons (batch_rows a) b (batches_of ms)) ∙ length-append (batch_rows a b) (rows_of_atom a (batches_of ms))),
    )

pub rows-by-atom : (atoms most : ℕ) (ms : List Message) → All (IsBatch atoms most) (batches_of ms)
    → rows_of ms ≡ sum_by (λ a. length (rows_of_atom a (batches_of ms))) (range_with_len 0 atoms)
rows-by-atom atoms most [] all = sym (sum_by-range_zero atoms)
rows-by-atom atoms most (m ∷ ms) all = rows-by-atom-step atoms most ms m.sender m.batch all (rows-by-atom atoms most ms)

-- ---- answers

pub first-ok : {X Y : Type 0} {P : Type 0} (r : Result X Memory) (q : Result Y Memory) (y : Y) → both r q ≡ Ok y → OnOk r P → P
first-ok (Ok x) q y e p = p
first-ok (Err refused) q y e p = absurd (subst (λ (r : Result _ Memory). IfOk r (λ _. ⊥)) e tt)

pub second-ok : {X Y : Type 0} (P : Y → Type 0) (r : Result X Memory) (q : Result Y Memory) (y : Y) → both r q ≡ Ok y → IfOk q P → P y
second-ok P (Ok x) q y e p = subst (λ (r : Result _ Memory). IfOk r P) e p
second-ok P (Err refused) q y e p = absurd (subst (λ (r : Result _ Memory). IfOk r (λ _. ⊥)) e tt)

pub parity : (k : ℕ) → (u : ℕ) × ((k ≡ 2 * u) ⊎ (k ≡ 2 * u + 1))
parity zero = (0, inl refl)
parity (suc k) = by (parity k)
  where
    by : ((u : ℕ) × ((k ≡ 2 * u) ⊎ (k ≡ 2 * u + 1))) → (u : ℕ) × ((suc k ≡ 2 * u) ⊎ (suc k ≡ 2 * u + 1))
    by (u, inl e) = (u, inr (omega (arith, e)))
    by (u, inr e) = (u + 1, inl (omega (arith, e)))
