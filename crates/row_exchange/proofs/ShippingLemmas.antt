-- Batches that are sent one after another, and then the end marks.
use Rattle.std.proofs.Common.{◌≡◌, ◌≢◌, ℕ, ◌+◌, ◌-◌, ◌<◌, Bool, cond, List, [], ◌∷◌, ◌++◌, length, map, get_or, All, refl, sym, ap, ◌∙◌, subst, arith, append-nil, length-append, length-set, ⊎_elim, eq-eqb, ne_eqb}
use Rattle.std.specs.Prelude.{sum_by}
use Rattle.std.proofs.lemmas.Bool.Decides.{eqb_tells}
use Rattle.std.proofs.lemmas.List.{get_or-map, length-map, get_or-set_same, get_or-set_other, length-replicate, get_or_append_left}
use Rattle.std.proofs.Math.Seq.{get_or-append_right}
use Rattle.std.proofs.lemmas.List.Concat.{flat_map-cons}
use Rattle.std.proofs.lemmas.List.Sums.{sum_by-set, sum_by-append, sum_by-cons}
use Rattle.std.proofs.lemmas.List.Elements.{All-append, filter_map-append}
use Rattle.std.proofs.lemmas.Grind.{flat_map-append}
use Rattle.rel_base.proofs.SortLemmas.{All-one}
use Rattle.rel_io.specs.declared.taps.Totals.{Totals}
use Rattle.rel_io.specs.Taps.{with_sent}
use Rattle.rel_io.specs.Outside.{capped_sum}
use Rattle.exchange_channels.specs.declared.messages.Batch.{Batch}
use Rattle.exchange_channels.specs.declared.messages.Message.{Message}
use Rattle.exchange_channels.specs.Messages.{batch_of, end_of, batches_of, batch_rows, row_count, rows_of, rows_of_atom}
use Rattle.exchange_channels.specs.Wirings.{OutletState, sent_to, with_sent_to, with_ends}
use Rattle.row_exchange.specs.Routes.{Row, Rows}
use Rattle.row_exchange.specs.Exchanges.{IsBatch}
use Rattle.row_exchange.specs.inner.Shipments.{Shipment, shipped, rows_in, IsFilled}
use Rattle.row_exchange.specs.inner.Stations.{IsFresh, rows_sent, HasShipped, SendsAll}
use Rattle.row_exchange.proofs.FillingLemmas.{shipped-push, rows_in-push}

All-front : {X : Type 0} (P : X → Type 0) (xs ys : List X) → All P (xs ++ ys) → All P xs
All-front P xs ys all k d below = subst P (get_or_append_left xs ys d k below) (all k d (omega (arith, length-append xs ys, below)))

All-last : {X : Type 0} (P : X → Type 0) (xs : List X) (x : X) → All P (xs ++ x ∷ []) → P x
All-last P xs x all =
    let last = get_or-append_right xs (x ∷ []) (length xs) x (omega arith) in
    let zero' : length xs - length xs ≡ 0 = omega arith in
    subst P (last ∙ ap (λ (k : ℕ). get_or (x ∷ []) k x) zero') (all (length xs) x (omega (arith, length-append xs (x ∷ []))))

batches-push : (ms : List Message) (n : ℕ) (b : Batch) → batches_of (ms ++ batch_of n b ∷ []) ≡ batches_of ms ++ b ∷ []
batches-push ms n b = filter_map-append (λ (m : Message). m.batch) ms (batch_of n b ∷ [])

batches-end : (ms : List Message) (n : ℕ) → batches_of (ms ++ end_of n ∷ []) ≡ batches_of ms
batches-end ms n = filter_map-append (λ (m : Message). m.batch) ms (end_of n ∷ []) ∙ append-nil (batches_of ms)

rows-push : (atom : ℕ) (bs : List Batch) (b : Batch) → rows_of_atom atom (bs ++ b ∷ []) ≡ rows_of_atom atom bs ++ batch_rows atom b
rows-push atom bs b =
    flat_map-append (batch_rows atom) bs (b ∷ [])
    ∙ ap (λ l. rows_of_atom atom bs ++ l) (flat_map-cons (batch_rows atom) b [] ∙ append-nil (batch_rows atom b))

-- ---- one batch

module _ (xs : List Shipment) (outlet now : OutletState) (s : Shipment) (h : HasShipped xs outlet now) (below : s.0 < length now.sent) where
  after : OutletState
  after = with_sent_to now s.0 (batch_of now.sender s.1)

  long : length after.sent ≡ length now.sent
  unfolding after
  long = length-set now.sent s.0 (sent_to now s.0 ++ batch_of now.sender s.1 ∷ [])

  here : sent_to after s.0 ≡ sent_to now s.0 ++ batch_of now.sender s.1 ∷ []
  unfolding after
  here = get_or-set_same now.sent s.0 (sent_to now s.0 ++ batch_of now.sender s.1 ∷ []) [] below

  elsewhere : (w : ℕ) → w ≢ s.0 → sent_to after w ≡ sent_to now w
  unfolding after
  elsewhere w ne = get_or-set_other now.sent s.0 w (sent_to now s.0 ++ batch_of now.sender s.1 ∷ []) [] ne

  rows-here : (atom : ℕ) → rows_of_atom atom (batches_of (sent_to after s.0)) ≡ shipped (xs ++ s ∷ []) s.0 atom
  rows-here atom =
      ap (λ ms. rows_of_atom atom (batches_of ms)) here
      ∙ ap (rows_of_atom atom) (batches-push (sent_to now s.0) now.sender s.1)
      ∙ rows-push atom (batches_of (sent_to now s.0)) s.1
      ∙ ap (λ l. l ++ batch_rows atom s.1) (h.rows_are s.0 atom below)
      ∙ sym (shipped-push xs s s.0 atom ∙ ap (λ (b : Bool). shipped xs s.0 atom ++ cond b (batch_rows atom s.1) []) (eq-eqb s.0 s.0 refl))

  rows-elsewhere : (w atom : ℕ) → w ≢ s.0 → w < length now.sent → rows_of_atom atom (batches_of (sent_to after w)) ≡ shipped (xs ++ s ∷ []) w atom
  rows-elsewhere w atom ne inside =
      ap (λ ms. rows_of_atom atom (batches_of ms)) (elsewhere w ne)
      ∙ h.rows_are w atom inside
      ∙ sym (shipped-push xs s w atom ∙ ap (λ (b : Bool). shipped xs w atom ++ cond b (batch_rows atom s.1) []) (ne_eqb s.0 w (λ e. ne (sym e))) ∙ append-nil (shipped xs w atom))

  sized-here : (atoms most : ℕ) → All (λ (t : Shipment). IsBatch atoms most t.1) (xs ++ s ∷ []) → All (IsBatch atoms most) (batches_of (sent_to after s.0))
  sized-here atoms most all =
      subst (All (IsBatch atoms most)) (sym (ap batches_of here ∙ batches-push (sent_to now s.0) now.sender s.1))
      (All-append (IsBatch atoms most) (batches_of (sent_to now s.0)) (s.1 ∷ []) (h.sized atoms most s.0 (All-front (λ (t : Shipment). IsBatch atoms most t.1) xs (s ∷ []) all) below)
      (All-one (IsBatch atoms most) s.1 (All-last (λ (t : Shipment). IsBatch atoms most t.1) xs s all)))

  counts : rows_sent after ≡ rows_in (xs ++ s ∷ [])
  unfolding after
  counts =
      let more = sent_to now s.0 ++ batch_of now.sender s.1 ∷ [] in
      let one : rows_of (batch_of now.sender s.1 ∷ []) ≡ length s.1.rows + 0 = sum_by-cons (λ (m : Message). row_count m.batch) (batch_of now.sender s.1) [] in
      let grown : rows_of more ≡ rows_of (sent_to now s.0) + rows_of (batch_of now.sender s.1 ∷ []) = sum_by-append (λ (m : Message). row_count m.batch) (sent_to now s.0) (batch_of now.sender s.1 ∷ []) in
      omega (arith, sum_by-set rows_of now.sent s.0 more [] below, grown, one, h.count_is, rows_in-push xs s)

  pub ship-step : HasShipped (xs ++ s ∷ []) outlet (with_sent_to now s.0 (batch_of now.sender s.1))
  unfolding after
  ship-step = record {
    wiring = h.wiring;
    sender = h.sender;
    cells = long ∙ h.cells;
    rows_are = λ w atom inside. ⊎_elim
        (λ e. subst (λ (v : ℕ). rows_of_atom atom (batches_of (sent_to after v)) ≡ shipped (xs ++ s ∷ []) v atom) (sym e.1) (rows-here atom))
        (λ e. rows-elsewhere w atom e.1 (omega (arith, inside, long)))
        (eqb_tells w s.0);
    sized = λ atoms most w all inside. ⊎_elim
        (λ e. subst (λ (v : ℕ). All (IsBatch atoms most) (batches_of (sent_to after v))) (sym e.1) (sized-here atoms most all))
        (λ e. subst (λ (ms : List Message). All (IsBatch atoms most) (batches_of ms)) (sym (elsewhere w e.1))
        (h.sized atoms most w (All-front (λ (t : Shipment). IsBatch atoms most t.1) xs (s ∷ []) all) (omega (arith, inside, long))))
        (eqb_tells w s.0);
    count_is = counts;
  }

-- ---- the end marks

ends-count : (n : ℕ) (xs : List (List Message)) → sum_by rows_of (map (λ ms. ms ++ end_of n ∷ []) xs) ≡ sum_by rows_of xs
ends-count n [] = refl
ends-count n (ms ∷ xs) =
    let one : rows_of (end_of n ∷ []) ≡ 0 + 0 = sum_by-cons (λ (m : Message). row_count m.batch) (end_of n) [] in
    let grown : rows_of (ms ++ end_of n ∷ []) ≡ rows_of ms + rows_of (end_of n ∷ []) = sum_by-append (λ (m : Message). row_count m.batch) ms (end_of n ∷ []) in
    omega (arith, sum_by-cons rows_of (ms ++ end_of n ∷ []) (map (λ ms. ms ++ end_of n ∷ []) xs), sum_by-cons rows_of ms xs, grown, one, ends-count n xs)

pub ship-ended : (xs : List Shipment) (outlet now : OutletState) → HasShipped xs outlet now → HasShipped xs outlet (with_ends now)
ship-ended xs outlet now h = record {
  wiring = h.wiring;
  sender = h.sender;
  cells = long ∙ h.cells;
  rows_are = λ w atom inside.
      ap (λ ms. rows_of_atom atom (batches_of ms)) (at w (omega (arith, inside, long)))
      ∙ ap (rows_of_atom atom) (batches-end (sent_to now w) now.sender) ∙ h.rows_are w atom (omega (arith, inside, long));
  sized = λ atoms most w all inside.
      subst (All (IsBatch atoms most)) (sym (ap batches_of (at w (omega (arith, inside, long))) ∙ batches-end (sent_to now w) now.sender)) (h.sized atoms most w all (omega (arith, inside, long)));
  count_is = ends-count now.sender now.sent ∙ h.count_is;
}
  where
    long : length (map (λ ms. ms ++ end_of now.sender ∷ []) now.sent) ≡ length now.sent
    long = length-map now.sent (λ (ms : List Message). ms ++ end_of now.sender ∷ [])

    at : (w : ℕ) → w < length now.sent → get_or (map (λ ms. ms ++ end_of now.sender ∷ []) now.sent) w [] ≡ sent_to now w ++ end_of now.sender ∷ []
    at w inside = get_or-map (λ (ms : List Message). ms ++ end_of now.sender ∷ []) now.sent w [] [] inside

pub told-twice : (t : Totals) (a b : ℕ) → with_sent (with_sent t a) b ≡ with_sent t (a + b)
told-twice t a b = let e : capped_sum (capped_sum t.sent a) b ≡ capped_sum t.sent (a + b) = omega arith in λ i. record t { sent = e i }

-- ---- all rows of a worker

pub fresh-long : (cells : ℕ) (outlet : OutletState) → IsFresh cells outlet → length outlet.sent ≡ cells
fresh-long cells outlet f = ap length f.nothing ∙ length-replicate {A = List Message} cells []

pub sent-all : (goes : ℕ → Row → List ℕ) (parts : List (List Rows)) (cells most worker : ℕ) (xs : List Shipment) (outlet end : OutletState)
    → IsFresh cells outlet → IsFilled goes parts cells most worker xs → HasShipped xs outlet end → SendsAll goes parts cells most worker end × (length end.sent ≡ cells)
sent-all goes parts cells most worker xs outlet end fresh f h = (
  record {
    sized = λ w below. h.sized (length parts) most w (λ k d inside. (f.sized k d inside).is_batch) (omega (arith, below, long));
    rows_are = λ w atom below one. h.rows_are w atom (omega (arith, below, long)) ∙ f.rows_are w atom one;
    count_is = h.count_is ∙ f.count_is;
  },
  long,
)
  where
    long : length end.sent ≡ cells
    long = h.cells ∙ fresh-long cells outlet fresh

pub sent-none : (cells : ℕ) (outlet end : OutletState) → IsFresh cells outlet → HasShipped [] outlet end → (rows_sent end ≡ 0) × (length end.sent ≡ cells)
sent-none cells outlet end fresh h = (h.count_is, h.cells ∙ fresh-long cells outlet fresh)
