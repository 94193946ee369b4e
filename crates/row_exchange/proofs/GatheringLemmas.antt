-- Stations that are manned one by one, and taken apart one by one.
use Rattle.std.proofs.Common.{◌≡◌, ℕ, zero, suc, ◌+◌, ◌-◌, ◌<◌, get_or, List, [], ◌∷◌, ◌++◌, length, map, reverse, All, Some, Result, Ok, Err, refl, sym, ap, ◌∙◌, subst, arith, append_assoc, append-nil, length-append}
use Rattle.std.specs.Prelude.{IfOk, IsOkAnd}
use Rattle.std.specs.List.{flat_map, range_with_len, AllZip}
use Rattle.rel_io.specs.declared.taps.Totals.{Totals}
use Rattle.crew.specs.Jobs.{EachHasRun}
use Rattle.crew.proofs.JobLemmas.{AllZip-from_run}
use Rattle.std.proofs.lemmas.List.{map-append, map-id, reverse-append, get_or-reverse, length-reverse}
use Rattle.std.proofs.lemmas.List.FromFn.{map-range_with_len_more}
use Rattle.std.proofs.lemmas.List.Concat.{flat_map-cons}
use Rattle.std.proofs.lemmas.List.Elements.{All-append, AllZip-push}
use Rattle.rel_base.proofs.SortLemmas.{All-one}
use Rattle.rel_base.specs.declared.failure.Memory.{Memory}
use Rattle.exchange_channels.specs.Wirings.{OutletState, IntakeState}
use Rattle.row_exchange.specs.Routes.{Row, Rows}
use Rattle.row_exchange.specs.declared.routes.Size.{Size}
use Rattle.row_exchange.specs.declared.stations.Outgoing.{Outgoing}
use Rattle.row_exchange.specs.declared.stations.Incoming.{Incoming}
use Rattle.row_exchange.specs.declared.stations.Halves.{Halves}
use Rattle.row_exchange.specs.inner.Stations.{Station, IsReadyOut, IsReadyIn, IsReadyStation, HasGoneOut, HasComeIn, HasRunStation}
use Rattle.row_exchange.specs.inner.Gatherings.{taps_of, opened, awaiting, out_of, taken_of, worker_of, outcome_of, IsOfWork, AreMannedBut, AreManned, IsTakenApartBut, IsTakenApart, stations_of, the_stations, ArePaired}

pub reverse-snoc : {X : Type 0} (xs : List X) (x : X) → reverse (xs ++ x ∷ []) ≡ x ∷ reverse xs
reverse-snoc xs x = reverse-append xs (x ∷ [])

range-more : (n : ℕ) → range_with_len 0 (n + 1) ≡ range_with_len 0 n ++ n ∷ []
range-more n =
    sym (map-id (range_with_len 0 (n + 1))) ∙ map-range_with_len_more (λ (k : ℕ). k) 0 n n (omega arith) ∙ ap (λ (l : List ℕ). l ++ n ∷ []) (map-id (range_with_len 0 n))

-- the last item goes to the other side
shift : {X S : Type 0} (f : S → X) (whole left rest : List X) (x : X) (s : S) (stations more : List S) → whole ≡ left ++ map f stations → left ≡ rest ++ x ∷ []
    → f s ≡ x → more ≡ s ∷ stations → whole ≡ rest ++ map f more
shift f whole left rest x s stations more e is same grown =
    e ∙ ap (λ l. l ++ map f stations) is ∙ append_assoc rest (x ∷ []) (map f stations)
    ∙ ap (λ y. rest ++ (y ∷ map f stations)) (sym same) ∙ ap (λ l. rest ++ map f l) (sym grown)

shift-pair : {X S : Type 0} (f : S → List X) (whole left rest pair : List X) (s : S) (stations more : List S) → whole ≡ left ++ flat_map f stations → left ≡ rest ++ pair
    → f s ≡ pair → more ≡ s ∷ stations → whole ≡ rest ++ flat_map f more
shift-pair f whole left rest pair s stations more e is same grown =
    e ∙ ap (λ l. l ++ flat_map f stations) is ∙ append_assoc rest pair (flat_map f stations)
    ∙ ap (λ l. rest ++ (l ++ flat_map f stations)) (sym same)
    ∙ ap (λ l. rest ++ l) (sym (flat_map-cons f s stations))
    ∙ ap (λ l. rest ++ flat_map f l) (sym grown)

unshift : {X S : Type 0} (f : S → X) (whole xs ys : List X) (x : X) (s : S) (left rest : List S) → xs ++ map f left ≡ whole → left ≡ s ∷ rest
    → f s ≡ x → ys ≡ xs ++ x ∷ [] → ys ++ map f rest ≡ whole
unshift f whole xs ys x s left rest e is same grown =
    ap (λ l. l ++ map f rest) grown ∙ append_assoc xs (x ∷ []) (map f rest)
    ∙ ap (λ y. xs ++ (y ∷ map f rest)) (sym same) ∙ ap (λ l. xs ++ map f l) (sym is) ∙ e

unshift-pair : {X S : Type 0} (f : S → List X) (whole xs ys pair : List X) (s : S) (left rest : List S) → xs ++ flat_map f left ≡ whole → left ≡ s ∷ rest
    → f s ≡ pair → ys ≡ xs ++ pair → ys ++ flat_map f rest ≡ whole
unshift-pair f whole xs ys pair s left rest e is same grown =
    ap (λ l. l ++ flat_map f rest) grown ∙ append_assoc xs pair (flat_map f rest)
    ∙ ap (λ l. xs ++ (l ++ flat_map f rest)) (sym same)
    ∙ ap (λ l. xs ++ l) (sym (flat_map-cons f s rest))
    ∙ ap (λ l. xs ++ flat_map f l) (sym is) ∙ e

-- two lists turned round
turned : {X : Type 0} (R : X → X → Type 0) (xs ys : List X) → AllZip R xs ys → AllZip R (reverse xs) (reverse ys)
turned R [] [] all = tt
turned R [] (y ∷ ys) all = absurd all
turned R (x ∷ xs) [] all = absurd all
turned R (x ∷ xs) (y ∷ ys) all =
    let turned_xs = reverse-append (x ∷ []) xs in
    let turned_ys = reverse-append (y ∷ []) ys in
    subst (λ (l : List _ × List _). AllZip R l.0 l.1) (λ i. (sym turned_xs i, sym turned_ys i)) (AllZip-push R (reverse xs) (reverse ys) x y (turned R xs ys all.1) all.0)

All-turned : {X : Type 0} (P : X → Type 0) (xs : List X) → All P (reverse xs) → All P xs
All-turned P xs all j d below =
    let inside : length xs - 1 - j < length xs = omega arith in
    let back : length xs - 1 - (length xs - 1 - j) ≡ j = omega arith in
    subst P (get_or-reverse xs (length xs - 1 - j) d inside ∙ ap (λ (m : ℕ). get_or xs m d) back) (all (length xs - 1 - j) d (omega (arith, inside, length-reverse xs)))

module _ {W T : Type 0} where
  pub manned-none : (route : W) (parts : List (List Rows)) (size : Size) (outlets : List OutletState) (intakes : List IntakeState) (taps : List T) (stations : List (Station W T))
      → stations ≡ [] → AreMannedBut route parts size outlets outlets intakes intakes taps taps stations
  manned-none route parts size outlets intakes taps stations none = subst (AreMannedBut route parts size outlets outlets intakes intakes taps taps) (sym none) (record {
    outlets_are = sym (append-nil (map Some outlets));
    intakes_are = sym (append-nil (map Some intakes));
    taps_are = sym (append-nil taps);
    workers_are = sym (append-nil (range_with_len 0 (length outlets)));
    same_work = λ k d below. absurd (omega arith);
  })

  pub manned-more : (route : W) (parts : List (List Rows)) (size : Size) (outlets left rest : List OutletState) (intakes in_left in_rest : List IntakeState) (taps taps_left taps_rest : List T)
      (stations more : List (Station W T)) (o : OutletState) (i : IntakeState) (a b : T) (s : Station W T)
      → left ≡ rest ++ o ∷ [] → in_left ≡ in_rest ++ i ∷ [] → taps_left ≡ taps_rest ++ a ∷ b ∷ [] → more ≡ s ∷ stations
      → opened s ≡ Some o → awaiting s ≡ Some i → taps_of s ≡ a ∷ b ∷ [] → worker_of s ≡ length rest → IsOfWork route parts size s
      → AreMannedBut route parts size outlets left intakes in_left taps taps_left stations → AreMannedBut route parts size outlets rest intakes in_rest taps taps_rest more
  manned-more route parts size outlets left rest intakes in_left in_rest taps taps_left taps_rest stations more o i a b s e f t grown is_o is_i is_t is_w works m = record {
    outlets_are = shift opened (map Some outlets) (map Some left) (map Some rest) (Some o) s stations more m.outlets_are (ap (map Some) e ∙ map-append Some rest (o ∷ [])) is_o grown;
    intakes_are = shift awaiting (map Some intakes) (map Some in_left) (map Some in_rest) (Some i) s stations more m.intakes_are (ap (map Some) f ∙ map-append Some in_rest (i ∷ [])) is_i grown;
    taps_are = shift-pair taps_of taps taps_left taps_rest (a ∷ b ∷ []) s stations more m.taps_are t is_t grown;
    workers_are = shift worker_of (range_with_len 0 (length outlets)) (range_with_len 0 (length left)) (range_with_len 0 (length rest)) (length rest) s stations more m.workers_are
        (ap (range_with_len 0) (let n : length left ≡ length rest + 1 = omega (arith, ap length e, length-append rest (o ∷ [])) in n) ∙ range-more (length rest)) is_w grown;
    same_work = subst (All (IsOfWork route parts size)) (sym grown) (All-append (IsOfWork route parts size) (s ∷ []) stations (All-one (IsOfWork route parts size) s works) m.same_work);
  }

  pub manned-all : (route : W) (parts : List (List Rows)) (size : Size) (outlets left : List OutletState) (intakes in_left : List IntakeState) (taps taps_left : List T) (stations : List (Station W T))
      → length left ≡ 0 → length in_left ≡ 0 → length taps_left ≡ 0 → AreMannedBut route parts size outlets left intakes in_left taps taps_left stations → AreManned route parts size outlets intakes taps stations
  manned-all route parts size outlets [] intakes [] taps [] stations e f t m = m
  manned-all route parts size outlets (o ∷ left) intakes in_left taps taps_left stations e f t m = absurd (omega (arith, e))
  manned-all route parts size outlets [] intakes (i ∷ in_left) taps taps_left stations e f t m = absurd (omega (arith, f))
  manned-all route parts size outlets [] intakes [] taps (a ∷ taps_left) stations e f t m = absurd (omega (arith, t))

  pub apart-none : (stations : List (Station W T)) (taps : List T) (outs : List OutletState) (ins : List IntakeState) (given : List (List Rows))
      → IsTakenApartBut stations stations taps taps outs outs ins ins given (Ok given)
  apart-none stations taps outs ins given = record { taps_are = refl; outs_are = refl; ins_are = refl; given_is = refl }

  given-more : (whole : List (Result (List Rows) Memory)) (before after : Result (List (List Rows)) Memory) (outcome : Result (List Rows) Memory) (s : Station W T) (left rest : List (Station W T))
      → left ≡ s ∷ rest → outcome_of s ≡ outcome
      → IfOk before (λ now. map Ok now ++ map outcome_of left ≡ whole)
      → IfOk after (λ now. IsOkAnd before (λ was. IsOkAnd outcome (λ parts. now ≡ was ++ parts ∷ [])))
      → IfOk after (λ now. map Ok now ++ map outcome_of rest ≡ whole)
  given-more whole before (Err refused) outcome s left rest e is had has = tt
  given-more whole (Err refused) (Ok now) outcome s left rest e is had has = absurd has
  given-more whole (Ok was) (Ok now) (Err refused) s left rest e is had has = absurd has
  given-more whole (Ok was) (Ok now) (Ok parts) s left rest e is had has =
      unshift outcome_of whole (map Ok was) (map Ok now) (Ok parts) s left rest had e is (ap (map Ok) has ∙ map-append Ok was (parts ∷ []))

  pub apart-more : (stations left rest : List (Station W T)) (taps taps1 taps2 taps3 : List T) (outs outs1 outs2 : List OutletState) (ins ins1 ins2 : List IntakeState) (given : List (List Rows))
      (given1 given2 : Result (List (List Rows)) Memory) (s : Station W T) (o : OutletState) (i : IntakeState) (a b : T) (outcome : Result (List Rows) Memory)
      → left ≡ s ∷ rest → taps2 ≡ taps1 ++ a ∷ [] → taps3 ≡ taps2 ++ b ∷ [] → outs2 ≡ outs1 ++ o ∷ [] → ins2 ≡ ins1 ++ i ∷ []
      → out_of s ≡ Some o → taken_of s ≡ Some i → taps_of s ≡ a ∷ b ∷ [] → outcome ≡ outcome_of s
      → IfOk given2 (λ now. IsOkAnd given1 (λ was. IsOkAnd outcome (λ parts. now ≡ was ++ parts ∷ [])))
      → IsTakenApartBut stations left taps taps1 outs outs1 ins ins1 given given1 → IsTakenApartBut stations rest taps taps3 outs outs2 ins ins2 given given2
  apart-more stations left rest taps taps1 taps2 taps3 outs outs1 outs2 ins ins1 ins2 given given1 given2 s o i a b outcome e t2 t3 eo ei is_o is_i is_t is_r has m = record {
    taps_are = unshift-pair taps_of (taps ++ flat_map taps_of stations) taps1 taps3 (a ∷ b ∷ []) s left rest m.taps_are e is_t (t3 ∙ ap (λ l. l ++ b ∷ []) t2 ∙ append_assoc taps1 (a ∷ []) (b ∷ []));
    outs_are = unshift out_of (map Some outs ++ map out_of stations) (map Some outs1) (map Some outs2) (Some o) s left rest m.outs_are e is_o (ap (map Some) eo ∙ map-append Some outs1 (o ∷ []));
    ins_are = unshift taken_of (map Some ins ++ map taken_of stations) (map Some ins1) (map Some ins2) (Some i) s left rest m.ins_are e is_i (ap (map Some) ei ∙ map-append Some ins1 (i ∷ []));
    given_is = given-more (map Ok given ++ map outcome_of stations) given1 given2 outcome s left rest e (sym is_r) m.given_is has;
  }

  -- ---- halves side by side

  -- one half more of each kind
  pub stations-more : (os more_os : List (Outgoing W T)) (is more_is : List (Incoming T)) (o : Outgoing W T) (i : Incoming T) → more_os ≡ os ++ o ∷ [] → more_is ≡ is ++ i ∷ []
      → stations_of (reverse more_os) (reverse more_is) ≡ record { outgoing = o; incoming = i } ∷ stations_of (reverse os) (reverse is)
  stations-more os more_os is more_is o i e f =
      let turned_os : reverse more_os ≡ o ∷ reverse os = ap reverse e ∙ reverse-snoc os o in
      let turned_is : reverse more_is ≡ i ∷ reverse is = ap reverse f ∙ reverse-snoc is i in
      λ j. stations_of (turned_os j) (turned_is j)

  pub stations-long : (os : List (Outgoing W T)) (is : List (Incoming T)) → length is ≡ length os → length (stations_of (reverse os) (reverse is)) ≡ length os
  stations-long os is paired = long (reverse os) (reverse is) (length-reverse is ∙ paired ∙ sym (length-reverse os)) ∙ length-reverse os
    where
      long : (os : List (Outgoing W T)) (is : List (Incoming T)) → length is ≡ length os → length (stations_of os is) ≡ length os
      long [] is e = refl
      long (o ∷ os) [] e = absurd (omega (arith, e))
      long (o ∷ os) (i ∷ is) e = omega (arith, long os is (omega (arith, e)))

  pub apart-all : (stations : List (Station W T)) (os : List (Outgoing W T)) (is : List (Incoming T)) (taps taps' : List T) (outs outs' : List OutletState) (ins ins' : List IntakeState)
      (given : List (List Rows)) (given' : Result (List (List Rows)) Memory) → length os ≡ 0
      → IsTakenApartBut stations (stations_of (reverse os) (reverse is)) taps taps' outs outs' ins ins' given given' → IsTakenApart stations taps taps' outs outs' ins ins' given given'
  apart-all stations [] is taps taps' outs outs' ins ins' given given' e m = m
  apart-all stations (o ∷ os) is taps taps' outs outs' ins ins' given given' e m = absurd (omega (arith, e))

  -- ---- all halves ran

  module _ (goes : W → ℕ → Row → List ℕ) (totals : T → Totals) (tag : T → ℕ) where
    ran : (os ps : List (Outgoing W T)) (is js : List (Incoming T)) → AllZip (HasGoneOut goes totals tag) os ps → AllZip (HasComeIn totals tag) is js
        → AllZip (HasRunStation goes totals tag) (stations_of os is) (stations_of ps js)
    ran [] [] is js outs ins = tt
    ran [] (p ∷ ps) is js outs ins = absurd outs
    ran (o ∷ os) [] is js outs ins = absurd outs
    ran (o ∷ os) (p ∷ ps) [] [] outs ins = tt
    ran (o ∷ os) (p ∷ ps) [] (j ∷ js) outs ins = absurd ins
    ran (o ∷ os) (p ∷ ps) (i ∷ is) [] outs ins = absurd ins
    ran (o ∷ os) (p ∷ ps) (i ∷ is) (j ∷ js) outs ins = (record { out = outs.0; taken = ins.0 }, ran os ps is js outs.1 ins.1)

    pub stations-ran : (before after : Halves W T) → EachHasRun (HasGoneOut goes totals tag) before.senders.items after.senders.items
        → EachHasRun (HasComeIn totals tag) before.receivers.items after.receivers.items → AllZip (HasRunStation goes totals tag) (the_stations before) (the_stations after)
    stations-ran before after outs ins =
        ran (reverse before.senders.items) (reverse after.senders.items) (reverse before.receivers.items) (reverse after.receivers.items)
        (turned (HasGoneOut goes totals tag) before.senders.items after.senders.items (AllZip-from_run (HasGoneOut goes totals tag) before.senders.items after.senders.items outs))
        (turned (HasComeIn totals tag) before.receivers.items after.receivers.items (AllZip-from_run (HasComeIn totals tag) before.receivers.items after.receivers.items ins))

  module _ (accepts : W → ℕ → Row → Type 0) (goes : W → ℕ → Row → List ℕ) where
    ready-halves : (os : List (Outgoing W T)) (is : List (Incoming T)) → length is ≡ length os → All (IsReadyStation accepts goes) (stations_of os is)
        → All (IsReadyOut accepts goes) os × All IsReadyIn is
    ready-halves os is paired all = (outs os is paired all, ins os is paired all)
      where
        outs : (os : List (Outgoing W T)) (is : List (Incoming T)) → length is ≡ length os → All (IsReadyStation accepts goes) (stations_of os is) → All (IsReadyOut accepts goes) os
        outs [] is e all k d below = absurd (omega arith)
        outs (o ∷ os) [] e all k d below = absurd (omega (arith, e))
        outs (o ∷ os) (i ∷ is) e all zero d below = (all 0 (record { outgoing = o; incoming = i }) (omega arith)).out
        outs (o ∷ os) (i ∷ is) e all (suc k) d below = outs os is (omega (arith, e)) (λ j s inside. all (suc j) s (omega arith)) k d (omega arith)

        ins : (os : List (Outgoing W T)) (is : List (Incoming T)) → length is ≡ length os → All (IsReadyStation accepts goes) (stations_of os is) → All IsReadyIn is
        ins [] [] e all k d below = absurd (omega arith)
        ins [] (i ∷ is) e all k d below = absurd (omega (arith, e))
        ins (o ∷ os) [] e all k d below = absurd (omega arith)
        ins (o ∷ os) (i ∷ is) e all zero d below = (all 0 (record { outgoing = o; incoming = i }) (omega arith)).intake
        ins (o ∷ os) (i ∷ is) e all (suc k) d below = ins os is (omega (arith, e)) (λ j s inside. all (suc j) s (omega arith)) k d (omega arith)

    pub halves-ready : (halves : Halves W T) → ArePaired halves → All (IsReadyStation accepts goes) (the_stations halves)
        → All (IsReadyOut accepts goes) halves.senders.items × All IsReadyIn halves.receivers.items
    halves-ready halves paired all =
        let os = halves.senders.items in
        let is = halves.receivers.items in
        let ready = ready-halves (reverse os) (reverse is) (length-reverse is ∙ paired ∙ sym (length-reverse os)) all in
        (All-turned (IsReadyOut accepts goes) os ready.0, All-turned IsReadyIn is ready.1)
