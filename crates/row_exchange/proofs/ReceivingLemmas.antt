-- What was drained, put together atom by atom.
use Rattle.std.proofs.Common.{◌≡◌, ◌≢◌, ℕ, ◌<◌, ◌≤◌, Bool, true≢false, cond, List, [], ◌∷◌, ◌++◌, length, get_or, set, replicate, refl, sym, ap, ◌∙◌, subst, arith, append_assoc, append-nil, length-set, ⊎_elim, eq-eqb, ne_eqb}
use Rattle.std.specs.Prelude.{IsPermutation, IfOk, IsOkAnd, IsSome, ◌↔◌}
use Rattle.std.proofs.Common.{Result, Ok, Err, Option, None}
use Rattle.std.proofs.lemmas.Bool.{cases_lt}
use Rattle.rel_base.specs.declared.failure.Memory.{Memory}
use Rattle.std.proofs.lemmas.Bool.Decides.{eqb_tells}
use Rattle.std.proofs.lemmas.List.{get_or-set_same, get_or-set_other, get_or-replicate, length-replicate}
use Rattle.std.proofs.lemmas.List.Concat.{flat_map-cons}
use Rattle.std.proofs.lemmas.List.Sorted.{IsPermutation-trans, IsPermutation-append_comm, IsPermutation-append_right}
use Rattle.std.proofs.lemmas.Grind.{flat_map-append}
use Rattle.exchange_channels.specs.declared.messages.Batch.{Batch}
use Rattle.exchange_channels.specs.declared.messages.Message.{Message}
use Rattle.exchange_channels.specs.Messages.{batch_rows, drained_of, drained_rows}
use Rattle.exchange_channels.proofs.SendingLemmas.{drained_rows-drained_of}
use Rattle.row_exchange.specs.Routes.{Rows}
use Rattle.row_exchange.specs.inner.Stations.{AreGathered, AreGatheredBut, TakesIn, HasReceived}
use Rattle.row_exchange.proofs.SumLemmas.{flat_map-permuted}

-- at first all is left, in whatever order
pub nothing-gathered : (atoms : ℕ) (drained left : List (ℕ × Batch)) (lists : List Rows) → IsPermutation drained left → lists ≡ replicate atoms []
    → AreGatheredBut atoms drained left lists
nothing-gathered atoms drained left lists same e = record {
  count = ap length e ∙ length-replicate {A = Rows} atoms [];
  rows_are = λ atom below.
      subst (IsPermutation (drained_rows atom drained))
      (sym (ap (λ (l : Rows). drained_rows atom left ++ l) (ap (λ (l : List Rows). get_or l atom []) e ∙ get_or-replicate {A = Rows} atoms atom [] [] below) ∙ append-nil (drained_rows atom left)))
      (flat_map-permuted (λ (t : ℕ × Batch). batch_rows atom t.1) drained left same);
}

-- one more is taken from the end
pub taken-step : (drained left rest taken : List (ℕ × Batch)) (one : ℕ × Batch) → left ≡ rest ++ one ∷ [] → IsPermutation drained (left ++ taken)
    → IsPermutation drained (rest ++ (taken ++ one ∷ []))
taken-step drained left rest taken one e so_far =
    IsPermutation-trans drained (left ++ taken) (rest ++ (taken ++ one ∷ [])) so_far
    (subst (λ l. IsPermutation (l ++ taken) (rest ++ (taken ++ one ∷ []))) (sym e)
    (subst (λ l. IsPermutation l (rest ++ (taken ++ one ∷ []))) (sym (append_assoc rest (one ∷ []) taken))
    (IsPermutation-append_right rest (one ∷ taken) (taken ++ one ∷ []) (IsPermutation-append_comm (one ∷ []) taken))))

drained-push : (atom : ℕ) (left : List (ℕ × Batch)) (taken : ℕ × Batch) → drained_rows atom (left ++ taken ∷ []) ≡ drained_rows atom left ++ batch_rows atom taken.1
drained-push atom left taken =
    flat_map-append (λ (t : ℕ × Batch). batch_rows atom t.1) left (taken ∷ [])
    ∙ ap (λ l. drained_rows atom left ++ l) (flat_map-cons (λ (t : ℕ × Batch). batch_rows atom t.1) taken [] ∙ append-nil (batch_rows atom taken.1))

-- a batch of another atom adds nothing
other-atom : (atom : ℕ) (left : List (ℕ × Batch)) (taken : ℕ × Batch) → taken.1.atom ≢ atom → drained_rows atom (left ++ taken ∷ []) ≡ drained_rows atom left
other-atom atom left taken ne =
    drained-push atom left taken ∙ ap (λ (b : Bool). drained_rows atom left ++ cond b taken.1.rows []) (ne_eqb taken.1.atom atom ne) ∙ append-nil (drained_rows atom left)

pub gathered-more : (atoms : ℕ) (drained before left : List (ℕ × Batch)) (taken : ℕ × Batch) (lists after : List Rows) → before ≡ left ++ taken ∷ [] → taken.1.atom < atoms
    → after ≡ set lists taken.1.atom (get_or lists taken.1.atom [] ++ taken.1.rows) → AreGatheredBut atoms drained before lists → AreGatheredBut atoms drained left after
gathered-more atoms drained before left taken lists after e inside is g = record {
  count = ap length is ∙ length-set lists taken.1.atom (get_or lists taken.1.atom [] ++ taken.1.rows) ∙ g.count;
  rows_are = λ atom below. ⊎_elim
      (λ h. subst (λ (a : ℕ). IsPermutation (drained_rows a drained) (drained_rows a left ++ get_or after a [])) (sym h.1) here)
      (λ h. subst (IsPermutation (drained_rows atom drained))
      (ap (λ l. l ++ get_or lists atom []) (ap (drained_rows atom) e ∙ other-atom atom left taken (λ k. h.1 (sym k)))
      ∙ ap (λ (l : Rows). drained_rows atom left ++ l) (sym (ap (λ (l : List Rows). get_or l atom []) is
      ∙ get_or-set_other lists taken.1.atom atom (get_or lists taken.1.atom [] ++ taken.1.rows) [] h.1)))
      (g.rows_are atom below))
      (eqb_tells atom taken.1.atom);
}
  where
    at : ℕ
    at = taken.1.atom

    -- the rows of the batch change sides
    moved : IsPermutation (drained_rows taken.1.atom before ++ get_or lists taken.1.atom []) (drained_rows taken.1.atom left ++ get_or after taken.1.atom [])
    moved =
        let mine = get_or lists taken.1.atom [] in
        let rest = drained_rows taken.1.atom left in
        let front : drained_rows taken.1.atom before ++ mine ≡ rest ++ (taken.1.rows ++ mine) =
        ap (λ l. l ++ mine) (ap (drained_rows taken.1.atom) e ∙ drained-push taken.1.atom left taken ∙ ap (λ (b : Bool). rest ++ cond b taken.1.rows []) (eq-eqb taken.1.atom taken.1.atom refl))
        ∙ append_assoc rest taken.1.rows mine in
        let back : get_or after taken.1.atom [] ≡ mine ++ taken.1.rows =
        ap (λ (l : List Rows). get_or l taken.1.atom []) is ∙ get_or-set_same lists taken.1.atom (mine ++ taken.1.rows) [] (omega (arith, g.count, inside)) in
        subst (λ (l : Rows). IsPermutation l (rest ++ get_or after taken.1.atom [])) (sym front)
        (subst (λ (l : Rows). IsPermutation (rest ++ (taken.1.rows ++ mine)) (rest ++ l)) (sym back)
        (IsPermutation-append_right rest (taken.1.rows ++ mine) (mine ++ taken.1.rows) (IsPermutation-append_comm taken.1.rows mine)))

    here : IsPermutation (drained_rows taken.1.atom drained) (drained_rows taken.1.atom left ++ get_or after taken.1.atom [])
    here = IsPermutation-trans _ _ _ (g.rows_are taken.1.atom inside) moved

pub gathered-passed : (atoms : ℕ) (drained before left : List (ℕ × Batch)) (taken : ℕ × Batch) (lists : List Rows) → before ≡ left ++ taken ∷ [] → atoms ≤ taken.1.atom
    → AreGatheredBut atoms drained before lists → AreGatheredBut atoms drained left lists
gathered-passed atoms drained before left taken lists e outside g = record {
  count = g.count;
  rows_are = λ atom below.
      subst (λ (l : Rows). IsPermutation (drained_rows atom drained) (l ++ get_or lists atom []))
      (ap (drained_rows atom) e ∙ other-atom atom left taken (λ k. absurd (omega (arith, k, below, outside)))) (g.rows_are atom below);
}

pub all-gathered : (atoms : ℕ) (drained left : List (ℕ × Batch)) (lists parts : List Rows) → left ≡ [] → parts ≡ lists → AreGatheredBut atoms drained left lists → AreGathered atoms drained parts
all-gathered atoms drained left lists parts none is g = record {
  count = ap length is ∙ g.count;
  rows_are = λ atom below.
      subst (IsPermutation (drained_rows atom drained)) (ap (λ l. drained_rows atom l ++ get_or lists atom []) none ∙ ap (λ (l : List Rows). get_or l atom []) (sym is)) (g.rows_are atom below);
}

pub received-gathered : (atoms : ℕ) (got : List Message) (drained : List (ℕ × Batch)) (parts : List Rows) → drained ≡ drained_of got → AreGathered atoms drained parts → HasReceived atoms got parts
received-gathered atoms got drained parts e g = record {
  count = g.count;
  rows_are = λ atom below. subst (λ (l : Rows). IsPermutation l (get_or parts atom [])) (ap (drained_rows atom) e ∙ drained_rows-drained_of atom got) (g.rows_are atom below);
}

pub gathered-step : (atoms : ℕ) (drained before left : List (ℕ × Batch)) (taken : ℕ × Batch) (lists after : List Rows) → before ≡ left ++ taken ∷ []
    → TakesIn taken.1 lists after → AreGatheredBut atoms drained before lists → AreGatheredBut atoms drained left after
gathered-step atoms drained before left taken lists after e t g = ⊎_elim
    (λ (h : taken.1.atom < atoms). gathered-more atoms drained before left taken lists after e h (t.within (omega (arith, h, g.count))) g)
    (λ (h : atoms ≤ taken.1.atom). subst (AreGatheredBut atoms drained left) (sym (t.past (omega (arith, h, g.count)))) (gathered-passed atoms drained before left taken lists e h g))
    (cases_lt taken.1.atom atoms)

pub received-from : (atoms : ℕ) (got : List Message) (r : Result (List Rows) Memory) (d : Result (List (ℕ × Batch)) Memory)
    → IfOk r (λ parts. IsOkAnd d (λ taken. AreGathered atoms taken parts)) → IfOk d (λ drained. drained ≡ drained_of got) → IfOk r (HasReceived atoms got)
received-from atoms got (Ok parts) (Ok taken) g e = received-gathered atoms got taken parts e g
received-from atoms got (Ok parts) (Err refused) g e = absurd g
received-from atoms got (Err refused) d g e = tt

pub nil-from_pop : {X : Type 0} (old : List X) (r : Option X) → r ≡ None → (IsSome r ↔ (0 < length old)) → old ≡ []
nil-from_pop [] r e h = refl
nil-from_pop (x ∷ xs) r e h = absurd (true≢false (sym (subst IsSome e (h.1 (omega arith)))))
