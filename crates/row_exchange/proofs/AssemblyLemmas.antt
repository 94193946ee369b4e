-- From the stations that ran to what the exchange gives.
use Rattle.std.proofs.Common.{◌≡◌, ℕ, zero, suc, ◌+◌, ◌*◌, ◌<◌, ◌≤◌, List, [], ◌∷◌, ◌++◌, length, map, get_or, replicate, All, Option, Some, Result, Ok, refl, sym, ap, ◌∙◌, subst, arith, append-nil, length-append, zero-add}
use Rattle.std.specs.Prelude.{IsSome, IsErr, IfOk, IsPermutation, sum_by}
use Rattle.std.proofs.Common.{◌⊎◌, ⊎_elim}
use Rattle.std.proofs.Math.Seq.{get_or-append_right}
use Rattle.std.proofs.lemmas.Bool.{cases_lt}
use Rattle.std.proofs.lemmas.List.Sums.{get_or-le-sum_by}
use Rattle.std.proofs.lemmas.List.Sorted.{IsPermutation-sym, IsPermutation-trans, sum_by-IsPermutation}
use Rattle.std.specs.List.{flat_map, range_with_len}
use Rattle.std.proofs.lemmas.Option.{same_Some}
use Rattle.std.proofs.lemmas.List.{get_or-map, length-map, map-id, get_or_append_left, get_or_past}
use Rattle.std.proofs.lemmas.List.FromFn.{get_or-range_with_len, length-range_with_len, get_or-map-range_with_len}
use Rattle.rel_base.specs.declared.failure.Memory.{Memory}
use Rattle.rel_io.specs.declared.taps.Totals.{Totals}
use Rattle.rel_io.specs.Taps.{with_sent, with_got}
use Rattle.rel_io.specs.Outside.{capped_sum}
use Rattle.std.specs.List.{AllZip}
use Rattle.std.proofs.lemmas.List.Elements.{AllZip-get_or}
use Rattle.std.proofs.lemmas.Slice.Zip.{AllZip-long}
use Rattle.exchange_channels.specs.Wirings.{WiringState, OutletState, IntakeState, IsWired, AreIntakes, AreOutletEnds, AreIntakeEnds, cells_of, new_outlet, untaken, sent_to, all_sent_to, IsDelivered, receipt_of, ReceiptState}
use Rattle.exchange_channels.specs.declared.messages.Batch.{Batch}
use Rattle.exchange_channels.specs.declared.messages.Message.{Message}
use Rattle.exchange_channels.proofs.SendingLemmas.{took_all_sent}
use Rattle.exchange_channels.specs.Messages.{rows_of, row_count, batches_of, rows_of_atom}
use Rattle.exchange_channels.proofs.PortLemmas.{map_same}
use Rattle.exchange_channels.proofs.DeliveryLemmas.{element}
use Rattle.row_exchange.specs.Routes.{Row, Rows, IsRouted, rows_at}
use Rattle.row_exchange.specs.inner.Pairs.{rows_to}
use Rattle.row_exchange.specs.Moves.{Move, sendings_of, moves_of, sent, received, rows_between, rows_given}
use Rattle.row_exchange.specs.Exchanges.{IsSize, IsBatch, AreLow, with_more, nothing, of_all, AreTold, InOrder, batches_between, Shows, IsGiven, IsExchanged, IsExchange}
use Rattle.row_exchange.specs.declared.exchanging.Exchanged.{Exchanged}
use Rattle.std.proofs.lemmas.Result.{IfOk-weaker, IfOk-from_err}
use Rattle.row_exchange.proofs.SumLemmas.{sum_by-same, sum_by-range_same, sums-swap, sum_by-places, sum_by-flat_map, sum_by-bounded}
use Rattle.row_exchange.proofs.MoveLemmas.{between-routed, given-routed, sent-routed, received-routed}
use Rattle.row_exchange.proofs.ReceiptLemmas.{no-batches}
use Rattle.row_exchange.proofs.TapLemmas.{nothing-told}
use Rattle.row_exchange.proofs.MessageLemmas.{rows-permuted, rows-of-all, flat_map-places, rows-by-atom, first-ok, second-ok, parity}
use Rattle.row_exchange.specs.declared.routes.Size.{Size}
use Rattle.row_exchange.specs.inner.Stations.{Station, HasOutlet, rows_sent, SendsAll, HasSentAll, HasReceived, IsReadyStation, HasRunStation}
use Rattle.row_exchange.specs.inner.Gatherings.{taps_of, opened, awaiting, out_of, taken_of, worker_of, outcome_of, HasEnds, IsOfWork, AreManned, IsTakenApart}

-- two taps of each station, one station after another
pub first-tap : {W T : Type 0} (xs : List (Station W T)) (k : ℕ) (d : T) (e : Station W T) → k < length xs → get_or (flat_map taps_of xs) (2 * k) d ≡ (get_or xs k e).outgoing.tap
first-tap [] k d e below = absurd (omega arith)
first-tap (x ∷ xs) zero d e below = refl
first-tap (x ∷ xs) (suc k) d e below =
    let at : 2 * suc k ≡ suc (suc (2 * k)) = omega arith in
    ap (λ (j : ℕ). get_or (flat_map taps_of (x ∷ xs)) j d) at ∙ first-tap xs k d e (omega arith)

pub second-tap : {W T : Type 0} (xs : List (Station W T)) (k : ℕ) (d : T) (e : Station W T) → k < length xs → get_or (flat_map taps_of xs) (2 * k + 1) d ≡ (get_or xs k e).incoming.tap
second-tap [] k d e below = absurd (omega arith)
second-tap (x ∷ xs) zero d e below = refl
second-tap (x ∷ xs) (suc k) d e below =
    let at : 2 * suc k + 1 ≡ suc (suc (2 * k + 1)) = omega arith in
    ap (λ (j : ℕ). get_or (flat_map taps_of (x ∷ xs)) j d) at ∙ second-tap xs k d e (omega arith)

pub taps-long : {W T : Type 0} (xs : List (Station W T)) → length (flat_map taps_of xs) ≡ 2 * length xs
taps-long [] = refl
taps-long (x ∷ xs) = omega (arith, taps-long xs)

module _ {W T : Type 0} (accepts : W → ℕ → Row → Type 0) (goes : W → ℕ → Row → List ℕ) (totals : T → Totals) (tag : T → ℕ)
    (route : W) (parts : List (List Rows)) (size : Size) (capacity : ℕ) (keep : WiringState) (outlets : List OutletState) (intakes : List IntakeState) (front : List T)
    (before : List (Station W T)) (ok : IsSize size) (routed : IsRouted (accepts route) (goes route) size.workers parts)
    (wired : IsWired keep outlets intakes size.workers size.workers capacity) (manned : AreManned route parts size outlets intakes front before) where
  outlets-long : length outlets ≡ size.workers
  outlets-long = ap length wired.all_outlets ∙ length-map (range_with_len 0 size.workers) (new_outlet keep) ∙ length-range_with_len 0 size.workers

  pub before-long : length before ≡ size.workers
  before-long = sym (length-map before worker_of) ∙ sym (ap length manned.workers_are) ∙ length-range_with_len 0 (length outlets) ∙ outlets-long

  -- the station of worker k before it ran
  worker-at : (k : ℕ) (d : Station W T) → k < size.workers → worker_of (get_or before k d) ≡ k
  worker-at k d below =
      sym (get_or-map worker_of before k d 0 (omega (arith, below, before-long)))
      ∙ sym (ap (λ (l : List ℕ). get_or l k 0) manned.workers_are) ∙ get_or-range_with_len 0 (length outlets) k 0 (omega (arith, below, outlets-long)) ∙ zero-add k

  new-at : (k : ℕ) (e : OutletState) → k < size.workers → get_or outlets k e ≡ new_outlet keep k
  new-at k e below =
      ap (λ (l : List OutletState). get_or l k e) wired.all_outlets
      ∙ get_or-map (new_outlet keep) (range_with_len 0 size.workers) k 0 e (omega (arith, below, length-range_with_len 0 size.workers))
      ∙ ap (new_outlet keep) (get_or-range_with_len 0 size.workers k 0 below ∙ zero-add k)

  opened-at : (k : ℕ) (d : Station W T) → k < size.workers → opened (get_or before k d) ≡ Some (new_outlet keep k)
  opened-at k d below =
      sym (get_or-map opened before k d (Some (new_outlet keep k)) (omega (arith, below, before-long)))
      ∙ sym (ap (λ (l : List (Option OutletState)). get_or l k (Some (new_outlet keep k))) manned.outlets_are)
      ∙ get_or-map Some outlets k (new_outlet keep k) (Some (new_outlet keep k)) (omega (arith, below, outlets-long))
      ∙ ap Some (new-at k (new_outlet keep k) below)

  intakes-long : length intakes ≡ size.workers
  intakes-long = wired.all_intakes.count ∙ wired.same_cells

  awaiting-at : (k : ℕ) (d : Station W T) (e : IntakeState) → k < size.workers → awaiting (get_or before k d) ≡ Some (get_or intakes k e)
  awaiting-at k d e below =
      sym (get_or-map awaiting before k d (Some e) (omega (arith, below, before-long)))
      ∙ sym (ap (λ (l : List (Option IntakeState)). get_or l k (Some e)) manned.intakes_are)
      ∙ get_or-map Some intakes k e (Some e) (omega (arith, below, intakes-long))

  work-at : (k : ℕ) (d : Station W T) → k < size.workers → IsOfWork route parts size (get_or before k d)
  work-at k d below = manned.same_work k d (omega (arith, below, before-long))

  IsSome-from : {X : Type 0} (o : Option X) (x : X) → o ≡ Some x → IsSome o
  IsSome-from o x e = subst IsSome (sym e) refl

  ready-at : (k : ℕ) (d : Station W T) (e : IntakeState) → k < size.workers → IsReadyStation accepts goes (get_or before k d)
  ready-at k d e below =
      let s = get_or before k d in
      let w = work-at k d below in
      record {
        out = record {
          routed = subst (λ (x : W × (ℕ × List (List Rows))). IsRouted (accepts x.0) (goes x.0) x.1.0 x.1.1) (λ i. (sym w.out.route_is i, (ap (λ (z : Size). z.workers) (sym w.out.size_is) i, sym w.out.parts_are i))) routed;
          size = subst IsSize (sym w.out.size_is) ok;
          worker = omega (arith, worker-at k d below, below, ap (λ (z : Size). z.workers) w.out.size_is);
          outlet = subst (λ (x : Option OutletState × ℕ). HasOutlet x.1 x.0) (λ i. (sym (opened-at k d below) i, ap (λ (z : Size). z.workers) (sym w.out.size_is) i))
              (record { count = wired.same_cells; nothing = ap (λ (c : ℕ). replicate c []) wired.same_cells });
        };
        intake = IsSome-from (awaiting s) (get_or intakes k e) (awaiting-at k d e below);
      }

  pub all-ready : All (IsReadyStation accepts goes) before
  all-ready k d below = ready-at k d (element intakes 0 (omega (arith, intakes-long, ok.some_worker))) (omega (arith, below, before-long))

  module _ (after : List (Station W T)) (run : AllZip (HasRunStation goes totals tag) before after) where
    run-at : (k : ℕ) (d : Station W T) → k < size.workers → HasRunStation goes totals tag (get_or before k d) (get_or after k d)
    run-at k d below = AllZip-get_or (HasRunStation goes totals tag) before after k d d run (omega (arith, below, before-long))

    pub after-long : length after ≡ size.workers
    after-long = AllZip-long (HasRunStation goes totals tag) before after run ∙ before-long

    pub all-ended : All HasEnds after
    all-ended k d below =
        let r = run-at k d (omega (arith, below, after-long)) in
        record { out = IsSome-from (out_of (get_or after k d)) r.out.end r.out.is; taken = IsSome-from (taken_of (get_or after k d)) r.taken.end r.taken.is }

    module _ (outs : List OutletState) (ins : List IntakeState) (taps : List T) (given : Result (List (List Rows)) Memory)
        (apart : IsTakenApart after [] taps [] outs [] ins [] given) where
      pub outs-long : length outs ≡ size.workers
      outs-long = sym (length-map outs Some) ∙ ap length (sym (append-nil (map Some outs)) ∙ apart.outs_are) ∙ length-map after out_of ∙ after-long

      pub ins-long : length ins ≡ size.workers
      ins-long = sym (length-map ins Some) ∙ ap length (sym (append-nil (map Some ins)) ∙ apart.ins_are) ∙ length-map after taken_of ∙ after-long

      end-at : (k : ℕ) (d : Station W T) (e : OutletState) (below : k < size.workers) → get_or outs k e ≡ (run-at k d below).out.end
      end-at k d e below =
          same_Some (get_or outs k e) (run-at k d below).out.end
          (sym (get_or-map Some outs k e (Some e) (omega (arith, below, outs-long)))
          ∙ ap (λ (l : List (Option OutletState)). get_or l k (Some e)) (sym (append-nil (map Some outs)) ∙ apart.outs_are)
          ∙ get_or-map out_of after k d (Some e) (omega (arith, below, after-long)) ∙ (run-at k d below).out.is)

      taken-at : (k : ℕ) (d : Station W T) (e : IntakeState) (below : k < size.workers) → get_or ins k e ≡ (run-at k d below).taken.end
      taken-at k d e below =
          same_Some (get_or ins k e) (run-at k d below).taken.end
          (sym (get_or-map Some ins k e (Some e) (omega (arith, below, ins-long)))
          ∙ ap (λ (l : List (Option IntakeState)). get_or l k (Some e)) (sym (append-nil (map Some ins)) ∙ apart.ins_are)
          ∙ get_or-map taken_of after k d (Some e) (omega (arith, below, after-long)) ∙ (run-at k d below).taken.is)

      pub sent-at : (k : ℕ) (d : Station W T) (e : OutletState) → k < size.workers
          → HasSentAll (goes route) parts size.workers size.batch k (new_outlet keep k) (get_or outs k e) (get_or after k d).outgoing.sent
      sent-at k d e below =
          let r = run-at k d below in
          let w = work-at k d below in
          let s = (get_or before k d).outgoing in
          let opens : r.out.outlet ≡ new_outlet keep k = same_Some r.out.outlet (new_outlet keep k) (sym r.out.was ∙ opened-at k d below) in
          subst (λ (x : W × (List (List Rows) × (Size × (ℕ × (OutletState × OutletState))))).
          HasSentAll (goes x.0) x.1.0 x.1.1.0.workers x.1.1.0.batch x.1.1.1.0 x.1.1.1.1.0 x.1.1.1.1.1 (get_or after k d).outgoing.sent)
          (λ i. (w.out.route_is i, (w.out.parts_are i, (w.out.size_is i, (worker-at k d below i, (opens i, sym (end-at k d e below) i))))))
          r.out.sent

      pub same-at : (k : ℕ) (d : Station W T) (e : IntakeState) → k < size.workers → untaken (get_or ins k e) ≡ get_or intakes k e
      same-at k d e below =
          let r = run-at k d below in
          ap untaken (taken-at k d e below) ∙ r.taken.same ∙ same_Some r.taken.intake (get_or intakes k e) (sym r.taken.was ∙ awaiting-at k d e below)

      pub received-at : (k : ℕ) (d : Station W T) (e : IntakeState) → k < size.workers → IfOk (get_or after k d).incoming.received (HasReceived (length parts) (get_or ins k e).got)
      received-at k d e below =
          let r = run-at k d below in
          subst (λ (x : ℕ × IntakeState). IfOk (get_or after k d).incoming.received (HasReceived x.0 x.1.got))
          (λ i. ((work-at k d below).atoms i, sym (taken-at k d e below) i)) r.taken.received

      pub outs-are-ends : (d : Station W T) → AreOutletEnds keep outs
      outs-are-ends d = record {
        count = outs-long ∙ sym wired.same_senders;
        of_wiring = λ k e below. (sent-at k d e (omega (arith, below, outs-long))).wiring;
        in_order = λ k e below. (sent-at k d e (omega (arith, below, outs-long))).sender;
      }

      pub untaken-are : (d : Station W T) → map untaken ins ≡ intakes
      untaken-are d = map_same untaken (λ (i : IntakeState). i) intakes ins (ins-long ∙ sym intakes-long) (λ k e below. same-at k d e (omega (arith, below, intakes-long))) ∙ map-id intakes

      pub ins-are-ends : (d : Station W T) → AreIntakeEnds keep ins
      ins-are-ends d = subst (AreIntakes keep) (sym (untaken-are d)) wired.all_intakes

      taps-are : taps ≡ flat_map taps_of after
      taps-are = sym (append-nil taps) ∙ apart.taps_are

      pub taps-as-long : length taps ≡ 2 * size.workers
      taps-as-long = omega (arith, ap length taps-are, taps-long after, after-long)

      pub front-long : length front ≡ 2 * size.workers
      front-long = omega (arith, ap length manned.taps_are, taps-long before, before-long)

      pub sent-tap : (k : ℕ) (d : Station W T) (t : T) (e : OutletState) → k < size.workers
          → (totals (get_or taps (2 * k) t) ≡ with_sent (totals (get_or front (2 * k) t)) (rows_sent (get_or outs k e))) × (tag (get_or taps (2 * k) t) ≡ tag (get_or front (2 * k) t))
      sent-tap k d t e below =
          let r = run-at k d below in
          let now : get_or taps (2 * k) t ≡ (get_or after k d).outgoing.tap = ap (λ (l : List T). get_or l (2 * k) t) taps-are ∙ first-tap after k t d (omega (arith, below, after-long)) in
          let was : get_or front (2 * k) t ≡ (get_or before k d).outgoing.tap = ap (λ (l : List T). get_or l (2 * k) t) manned.taps_are ∙ first-tap before k t d (omega (arith, below, before-long)) in (
            ap totals now ∙ r.out.told ∙ ap (λ (x : T). with_sent (totals x) (rows_sent r.out.end)) (sym was)
                ∙ ap (λ (o : OutletState). with_sent (totals (get_or front (2 * k) t)) (rows_sent o)) (sym (end-at k d e below)),
            ap tag now ∙ r.out.same_tag ∙ ap tag (sym was),
          )

      pub got-tap : (k : ℕ) (d : Station W T) (t : T) (e : IntakeState) → k < size.workers
          → (totals (get_or taps (2 * k + 1) t) ≡ with_got (totals (get_or front (2 * k + 1) t)) (rows_of (get_or ins k e).got)) × (tag (get_or taps (2 * k + 1) t) ≡ tag (get_or front (2 * k + 1) t))
      got-tap k d t e below =
          let r = run-at k d below in
          let now : get_or taps (2 * k + 1) t ≡ (get_or after k d).incoming.tap = ap (λ (l : List T). get_or l (2 * k + 1) t) taps-are ∙ second-tap after k t d (omega (arith, below, after-long)) in
          let was : get_or front (2 * k + 1) t ≡ (get_or before k d).incoming.tap = ap (λ (l : List T). get_or l (2 * k + 1) t) manned.taps_are ∙ second-tap before k t d (omega (arith, below, before-long)) in (
            ap totals now ∙ r.taken.told ∙ ap (λ (x : T). with_got (totals x) (rows_of r.taken.end.got)) (sym was)
                ∙ ap (λ (o : IntakeState). with_got (totals (get_or front (2 * k + 1) t)) (rows_of o.got)) (sym (taken-at k d e below)),
            ap tag now ∙ r.taken.same_tag ∙ ap tag (sym was),
          )

      module _ (delivered : All (IsDelivered outs) ins) where
        cell-at : (k : ℕ) (d : Station W T) (e : IntakeState) → k < size.workers → (get_or ins k e).cell ≡ k
        cell-at k d e below = ap (λ (i : IntakeState). i.cell) (same-at k d e below) ∙ wired.all_intakes.in_order k e (omega (arith, below, intakes-long))

        took-at : (k : ℕ) (d : Station W T) (e : IntakeState) → k < size.workers → IsPermutation (get_or ins k e).got (all_sent_to outs k)
        took-at k d e below =
            subst (λ (c : ℕ). IsPermutation (get_or ins k e).got (all_sent_to outs c)) (cell-at k d e below)
            (took_all_sent outs (get_or ins k e) (delivered k e (omega (arith, below, ins-long))))

        pub got-rows : (k : ℕ) (d : Station W T) (e : IntakeState) → k < size.workers → rows_of (get_or ins k e).got ≡ sum_by (λ o. rows_of (sent_to o k)) outs
        got-rows k d e below =
            sym (sum_by-IsPermutation (λ (m : Message). row_count m.batch) (get_or ins k e).got (all_sent_to outs k) (took-at k d e below))
            ∙ sum_by-flat_map (λ (m : Message). row_count m.batch) (λ o. sent_to o k) outs

        sent-rows : (k : ℕ) (d : Station W T) (e : OutletState) → k < size.workers
            → rows_sent (get_or outs k e) ≡ sum_by (λ w. rows_of (sent_to (get_or outs k e) w)) (range_with_len 0 size.workers)
        sent-rows k d e below =
            sum_by-places rows_of (get_or outs k e).sent [] ∙ ap (λ (n : ℕ). sum_by (λ w. rows_of (sent_to (get_or outs k e) w)) (range_with_len 0 n)) (sent-at k d e below).cells_are

        all-got : (d : Station W T) (e : IntakeState) → sum_by rows_sent outs ≡ of_all size.workers (λ w. rows_of (get_or ins w e).got)
        all-got d e =
            sum_by-same rows_sent (λ o. sum_by (λ w. rows_of (sent_to o w)) (range_with_len 0 size.workers)) outs (λ k o below. sent-rows k d o (omega (arith, below, outs-long)))
            ∙ sums-swap (λ (o : OutletState) (w : ℕ). rows_of (sent_to o w)) outs size.workers
            ∙ sum_by-range_same (λ w. sum_by (λ o. rows_of (sent_to o w)) outs) (λ w. rows_of (get_or ins w e).got) size.workers (λ w below. sym (got-rows w d e below))

        evenly : (d : Station W T) (o : OutletState) (e : IntakeState) → of_all size.workers (λ u. rows_sent (get_or outs u o)) ≡ of_all size.workers (λ w. rows_of (get_or ins w e).got)
        evenly d o e = sym (sum_by-places rows_sent outs o ∙ ap (λ (n : ℕ). of_all n (λ u. rows_sent (get_or outs u o))) outs-long) ∙ all-got d e

        few-sent : (k : ℕ) (d : Station W T) (e : OutletState) → k < size.workers → rows_sent (get_or outs k e) ≤ 2199023255552
        few-sent k d e below = (sent-at k d e below).few

        few-got : (k : ℕ) (d : Station W T) (e : IntakeState) → k < size.workers → rows_of (get_or ins k e).got ≤ 140737488355328
        few-got k d e below =
            let all : sum_by rows_sent outs ≤ length outs * 2199023255552 = sum_by-bounded rows_sent 2199023255552 outs (λ j o inside. few-sent j d o (omega (arith, inside, outs-long))) in
            let one : rows_of (get_or ins k e).got ≤ sum_by (λ (i : IntakeState). rows_of i.got) ins = get_or-le-sum_by (λ (i : IntakeState). rows_of i.got) ins k e (omega (arith, below, ins-long)) in
            let placed = sum_by-places (λ (i : IntakeState). rows_of i.got) ins e ∙ ap (λ (n : ℕ). of_all n (λ w. rows_of (get_or ins w e).got)) ins-long in
            let long : length outs * 2199023255552 ≡ size.workers * 2199023255552 = ap (λ (n : ℕ). n * 2199023255552) outs-long in
            omega (arith, all, one, long, ok.few_workers, all-got d e, placed)

        uncapped-sent : (t : Totals) (n : ℕ) → t.sent ≤ 9223372036854775808 → n ≤ 2199023255552 → with_sent t n ≡ with_more t n 0 0
        uncapped-sent t n low few =
            let s : capped_sum t.sent n ≡ t.sent + n = omega arith in
            let r : t.got ≡ t.got + 0 = omega arith in
            let l : t.listed ≡ t.listed + 0 = omega arith in
            λ i. record { sent = s i; got = r i; listed = l i }

        uncapped-got : (t : Totals) (n : ℕ) → t.got ≤ 9223372036854775808 → n ≤ 140737488355328 → with_got t n ≡ with_more t 0 n 0
        uncapped-got t n low few =
            let s : t.sent ≡ t.sent + 0 = omega arith in
            let r : capped_sum t.got n ≡ t.got + n = omega arith in
            let l : t.listed ≡ t.listed + 0 = omega arith in
            λ i. record { sent = s i; got = r i; listed = l i }

        module _ (tail whole told : List T) (low : All (λ t. AreLow (totals t)) whole) (is_whole : front ++ tail ≡ whole) (is_told : told ≡ taps ++ tail) where
          front-at : (k : ℕ) (t : T) → k < 2 * size.workers → get_or whole k t ≡ get_or front k t
          front-at k t below = ap (λ (l : List T). get_or l k t) (sym is_whole) ∙ get_or_append_left front tail t k (omega (arith, below, front-long))

          told-at : (k : ℕ) (t : T) → k < 2 * size.workers → get_or told k t ≡ get_or taps k t
          told-at k t below = ap (λ (l : List T). get_or l k t) is_told ∙ get_or_append_left taps tail t k (omega (arith, below, taps-as-long))

          behind : (k : ℕ) (t : T) → 2 * size.workers ≤ k → get_or told k t ≡ get_or whole k t
          behind k t past =
              ap (λ (l : List T). get_or l k t) is_told ∙ get_or-append_right taps tail k t (omega (arith, past, taps-as-long))
              ∙ ap (λ (m : ℕ). get_or tail m t) (omega (arith, taps-as-long, front-long))
              ∙ sym (ap (λ (l : List T). get_or l k t) (sym is_whole) ∙ get_or-append_right front tail k t (omega (arith, past, front-long)))

          same-count : length told ≡ length whole
          same-count = omega (arith, ap length is_told, ap length is_whole, length-append taps tail, length-append front tail, taps-as-long, front-long)

          long-whole : 2 * size.workers ≤ length whole
          long-whole = omega (arith, ap length is_whole, length-append front tail, front-long)

          pub is-told : (d : Station W T) (o : OutletState) (i : IntakeState)
              → AreTold totals tag size.workers (λ u. rows_sent (get_or outs u o)) (λ w. rows_of (get_or ins w i).got) nothing whole told
          is-told d o i = record {
            count = same-count;
            tags = λ k t below. ⊎_elim
                (λ (h : k < 2 * size.workers). tag-at k t h (parity k))
                (λ (h : 2 * size.workers ≤ k). ap tag (behind k t h))
                (cases_lt k (2 * size.workers));
            firsts = λ u t below.
                ap totals (told-at (2 * u) t (omega arith)) ∙ (sent-tap u d t o below).0
                ∙ uncapped-sent (totals (get_or front (2 * u) t)) (rows_sent (get_or outs u o))
                (subst (λ (x : T). (totals x).sent ≤ 9223372036854775808) (front-at (2 * u) t (omega arith)) (low (2 * u) t (omega (arith, below, long-whole))).sent) (few-sent u d o below)
                ∙ ap (λ (x : T). with_more (totals x) (rows_sent (get_or outs u o)) 0 0) (sym (front-at (2 * u) t (omega arith)));
            seconds = λ w t below.
                ap totals (told-at (2 * w + 1) t (omega arith)) ∙ (got-tap w d t i below).0
                ∙ uncapped-got (totals (get_or front (2 * w + 1) t)) (rows_of (get_or ins w i).got)
                (subst (λ (x : T). (totals x).got ≤ 9223372036854775808) (front-at (2 * w + 1) t (omega arith)) (low (2 * w + 1) t (omega (arith, below, long-whole))).got) (few-got w d i below)
                ∙ ap (λ (x : T). with_more (totals x) 0 (rows_of (get_or ins w i).got) 0) (sym (front-at (2 * w + 1) t (omega arith)));
            others = behind;
          }
            where
              tag-at : (k : ℕ) (t : T) → k < 2 * size.workers → (u : ℕ) × ((k ≡ 2 * u) ⊎ (k ≡ 2 * u + 1)) → tag (get_or told k t) ≡ tag (get_or whole k t)
              tag-at k t h (u, by) = ⊎_elim
                  (λ (e : k ≡ 2 * u). ap tag (told-at k t h) ∙ ap (λ (j : ℕ). tag (get_or taps j t)) e ∙ (sent-tap u d t o (omega (arith, e, h))).1 ∙ ap (λ (j : ℕ). tag (get_or front j t)) (sym e) ∙ ap tag (sym (front-at k t h)))
                  (λ (e : k ≡ 2 * u + 1). ap tag (told-at k t h) ∙ ap (λ (j : ℕ). tag (get_or taps j t)) e ∙ (got-tap u d t i (omega (arith, e, h))).1 ∙ ap (λ (j : ℕ). tag (get_or front j t)) (sym e) ∙ ap tag (sym (front-at k t h)))
                  by

        -- ---- the answer is Ok

        module _ (made : List (List Rows)) (all_ok : given ≡ Ok made) where
          made-list : map Ok made ≡ map outcome_of after
          made-list =
              sym (append-nil (map Ok made)) ∙ subst (λ r. IfOk r (λ now. map Ok now ++ [] ≡ map outcome_of after)) all_ok apart.given_is

          as_ok : List Rows → Result (List Rows) Memory
          as_ok rows = Ok rows

          pub made-long : length made ≡ size.workers
          unfolding as_ok
          made-long = sym (length-map made as_ok) ∙ ap length made-list ∙ length-map after outcome_of ∙ after-long

          outcome-at : (k : ℕ) (d : Station W T) (e : List Rows) → k < size.workers → outcome_of (get_or after k d) ≡ Ok (get_or made k e)
          outcome-at k d e below =
              sym (get_or-map outcome_of after k d (Ok e) (omega (arith, below, after-long)))
              ∙ sym (ap (λ (l : List (Result (List Rows) Memory)). get_or l k (Ok e)) made-list)
              ∙ get_or-map Ok made k e (Ok e) (omega (arith, below, made-long))

          sends-at : (k : ℕ) (d : Station W T) (o : OutletState) → k < size.workers → SendsAll (goes route) parts size.workers size.batch k (get_or outs k o)
          sends-at k d o below = first-ok (get_or after k d).outgoing.sent (get_or after k d).incoming.received (get_or made k []) (outcome-at k d [] below) (sent-at k d o below).ok

          received-of : (k : ℕ) (d : Station W T) (i : IntakeState) → k < size.workers → HasReceived (length parts) (get_or ins k i).got (get_or made k [])
          received-of k d i below = second-ok (HasReceived (length parts) (get_or ins k i).got) (get_or after k d).outgoing.sent (get_or after k d).incoming.received (get_or made k []) (outcome-at k d [] below) (received-at k d i below)

          between : (u w : ℕ) (o : OutletState) → u < size.workers → w < size.workers
              → batches_between (receipt_of keep outs) u w ≡ batches_of (sent_to (get_or outs u o) w)
          between u w o below inside =
              ap (λ (l : List (List Batch)). get_or l u [])
              (get_or-map-range_with_len (λ cell. map (λ out. batches_of (sent_to out cell)) outs) 0 (cells_of keep) w w [] (omega (arith, inside, wired.same_cells)) (omega arith))
              ∙ get_or-map (λ out. batches_of (sent_to out w)) outs u o [] (omega (arith, below, outs-long))

          -- what moves from one worker to another, of any atom
          rows-moved : (u w atom : ℕ) (d : Station W T) (o : OutletState) → u < size.workers → w < size.workers
              → rows_between (moves_of (sendings_of (goes route) parts)) atom u w ≡ rows_of_atom atom (batches_of (sent_to (get_or outs u o) w))
          rows-moved u w atom d o below inside =
              let s = sends-at u d o below in
              between-routed (goes route) parts atom u w
              ∙ ⊎_elim
              (λ (h : atom < length parts). sym (s.rows_are w atom inside h))
              (λ (h : length parts ≤ atom). ap (λ (p : List Rows). rows_to (goes route atom) w (get_or p u [])) (get_or_past parts atom [] h)
              ∙ sym (no-batches (length parts) size.batch atom (batches_of (sent_to (get_or outs u o) w)) h (s.sized w inside)))
              (cases_lt atom (length parts))

          pub shows : (d : Station W T) (o : OutletState) → capacity ≡ size.capacity → Shows InOrder (length parts) size (moves_of (sendings_of (goes route) parts)) (receipt_of keep outs)
          shows d o same = record {
            capacity = wired.same_capacity ∙ same;
            cells = length-map (range_with_len 0 (cells_of keep)) (λ cell. map (λ out. batches_of (sent_to out cell)) outs) ∙ length-range_with_len 0 (cells_of keep) ∙ wired.same_cells;
            senders = λ w inside.
                ap length (get_or-map-range_with_len (λ cell. map (λ out. batches_of (sent_to out cell)) outs) 0 (cells_of keep) w w [] (omega (arith, inside, wired.same_cells)) (omega arith))
                ∙ length-map outs (λ out. batches_of (sent_to out w)) ∙ outs-long;
            sized = λ u w below inside. subst (All (IsBatch (length parts) size.batch)) (sym (between u w o below inside)) ((sends-at u d o below).sized w inside);
            rows_are = λ u w atom below inside. rows-moved u w atom d o below inside ∙ sym (ap (rows_of_atom atom) (between u w o below inside));
          }

          sent-pairs : (d : Station W T) (o : OutletState) (u : ℕ) → u < size.workers → rows_sent (get_or outs u o) ≡ sent (moves_of (sendings_of (goes route) parts)) u
          sent-pairs d o u below = (sends-at u d o below).count_is ∙ sym (sent-routed (goes route) parts u)

          rows-between : (u w : ℕ) (d : Station W T) (o : OutletState) → u < size.workers → w < size.workers
              → rows_of (sent_to (get_or outs u o) w) ≡ sum_by (λ atom. length (rows_to (goes route atom) w (rows_at parts atom u))) (range_with_len 0 (length parts))
          rows-between u w d o below inside =
              let s = sends-at u d o below in
              rows-by-atom (length parts) size.batch (sent_to (get_or outs u o) w) (s.sized w inside)
              ∙ sum_by-range_same (λ atom. length (rows_of_atom atom (batches_of (sent_to (get_or outs u o) w)))) (λ atom. length (rows_to (goes route atom) w (rows_at parts atom u))) (length parts)
              (λ atom one. ap length (s.rows_are w atom inside one))

          got-pairs : (d : Station W T) (o : OutletState) (i : IntakeState) (w : ℕ) → w < size.workers → rows_of (get_or ins w i).got ≡ received (moves_of (sendings_of (goes route) parts)) w
          got-pairs d o i w inside =
              got-rows w d i inside
              ∙ sum_by-places (λ out. rows_of (sent_to out w)) outs o
              ∙ ap (λ (n : ℕ). sum_by (λ u. rows_of (sent_to (get_or outs u o) w)) (range_with_len 0 n)) outs-long
              ∙ sum_by-range_same (λ u. rows_of (sent_to (get_or outs u o) w)) (λ u. sum_by (λ atom. length (rows_to (goes route atom) w (rows_at parts atom u))) (range_with_len 0 (length parts))) size.workers
              (λ u below. rows-between u w d o below inside)
              ∙ sym (received-routed (goes route) parts size.workers routed.each_worker w)

          pub is-given : (d : Station W T) (o : OutletState) (i : IntakeState) → IsGiven (moves_of (sendings_of (goes route) parts)) (length parts) size.workers made
          is-given d o i = record {
            each_worker = made-long;
            each_atom = λ w inside. (received-of w d i inside).count;
            rows_are = λ w atom inside one.
                let r = received-of w d i inside in
                let given : Rows = rows_given (moves_of (sendings_of (goes route) parts)) atom w in
                let sent : rows_of_atom atom (batches_of (all_sent_to outs w)) ≡ given =
                rows-of-all atom (λ out. sent_to out w) outs
                ∙ flat_map-places (λ out. rows_of_atom atom (batches_of (sent_to out w))) (λ u. rows_to (goes route atom) w (rows_at parts atom u)) outs o size.workers outs-long
                (λ u below. (sends-at u d o below).rows_are w atom inside one)
                ∙ sym (given-routed (goes route) parts size.workers atom w one (routed.each_worker atom [] one)) in
                IsPermutation-trans given (rows_of_atom atom (batches_of (get_or ins w i).got)) (get_or (get_or made w []) atom [])
                (subst (λ (l : Rows). IsPermutation l (rows_of_atom atom (batches_of (get_or ins w i).got))) sent
                (IsPermutation-sym (rows_of_atom atom (batches_of (get_or ins w i).got)) (rows_of_atom atom (batches_of (all_sent_to outs w)))
                (rows-permuted atom (get_or ins w i).got (all_sent_to outs w) (took-at w d i inside))))
                (r.rows_are atom one);
          }

        -- ---- whatever the answer is

        module _ (tail whole told : List T) (low : All (λ t. AreLow (totals t)) whole) (is_whole : front ++ tail ≡ whole) (is_told : told ≡ taps ++ tail)
            (receipt : ReceiptState) (is_receipt : receipt ≡ receipt_of keep outs) (same : capacity ≡ size.capacity) where
          pub is-exchange : (answer : Result Exchanged Memory) → IfOk answer (λ made. (given ≡ Ok made.given) × (made.receipt ≡ receipt))
              → IsExchange (moves_of (sendings_of (goes route) parts)) (length parts) size totals tag whole told answer
          is-exchange answer if_ok = record {
            sent = λ u. rows_sent (get_or outs u o);
            got = λ w. rows_of (get_or ins w i).got;
            told = is-told tail whole told low is_whole is_told d o i;
            even = evenly d o i;
            ok = IfOk-weaker answer (λ made. (given ≡ Ok made.given) × (made.receipt ≡ receipt))
                (IsExchanged (moves_of (sendings_of (goes route) parts)) (length parts) size (λ u. rows_sent (get_or outs u o)) (λ w. rows_of (get_or ins w i).got))
                (λ made h. record {
                  sent_are = sent-pairs made.given h.0 d o;
                  got_are = got-pairs made.given h.0 d o i;
                  receipt = subst (Shows InOrder (length parts) size (moves_of (sendings_of (goes route) parts))) (sym (h.1 ∙ is_receipt)) (shows made.given h.0 d o same);
                  given = is-given made.given h.0 d o i;
                }) if_ok;
          }
            where
              d : Station W T
              d = element before 0 (omega (arith, before-long, ok.some_worker))

              o : OutletState
              o = new_outlet keep 0

              i : IntakeState
              i = element intakes 0 (omega (arith, intakes-long, ok.some_worker))

-- ---- nothing was done

pub nothing-done : {T : Type 0} (moves : List Move) (atoms : ℕ) (size : Size) (totals : T → Totals) (tag : T → ℕ) (taps : List T) (answer : Result Exchanged Memory)
    → IsErr answer → IsExchange moves atoms size totals tag taps taps answer
nothing-done moves atoms size totals tag taps answer err = record {
  sent = nothing;
  got = nothing;
  told = nothing-told totals tag size.workers taps;
  even = refl;
  ok = IfOk-from_err answer (IsExchanged moves atoms size nothing nothing) err;
}

pub wired-outs : (keep : WiringState) (outlets : List OutletState) (intakes : List IntakeState) (cells senders capacity : ℕ) → IsWired keep outlets intakes cells senders capacity → length outlets ≡ senders
wired-outs keep outlets intakes cells senders capacity wired =
    ap length wired.all_outlets ∙ length-map (range_with_len 0 senders) (new_outlet keep) ∙ length-range_with_len 0 senders

pub wired-ins : (keep : WiringState) (outlets : List OutletState) (intakes : List IntakeState) (cells senders capacity : ℕ) → IsWired keep outlets intakes cells senders capacity → length intakes ≡ cells
wired-ins keep outlets intakes cells senders capacity wired = wired.all_intakes.count ∙ wired.same_cells
