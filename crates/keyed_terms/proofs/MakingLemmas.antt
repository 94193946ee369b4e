-- Rows that are made worker by worker.
use Rattle.std.proofs.Common.{◌≡◌, ℕ, zero, suc, ◌+◌, ◌*◌, ◌^◌, ◌<◌, ◌≤◌, Bool, true, false, List, [], ◌∷◌, ◌++◌, length, map, get_or, Result, Ok, Err, refl, inl, inr, sym, ap, ◌∙◌, subst, arith}
use Rattle.std.specs.Prelude.{◌&&◌, sum_by, IfOk, OnOk}
use Rattle.std.specs.List.{list_all, range_with_len}
use Rattle.std.proofs.lemmas.List.{get_or_default, get_or-map, length-map}
use Rattle.std.proofs.lemmas.List.{map-id}
use Rattle.std.proofs.lemmas.List.FromFn.{map-range_with_len_more}
use Rattle.std.proofs.lemmas.List.Concat.{length-flat_map}
use Rattle.std.proofs.lemmas.List.Elements.{All-map}
use Rattle.std.proofs.lemmas.List.Folds.{list_all-append}
use Rattle.std.proofs.lemmas.Result.{IfErr-weaker}
use Rattle.std.proofs.lemmas.List.Sums.{get_or-le-sum_by, sum_by-le}
use Rattle.rel_base.specs.Bags.{SameBag}
use Rattle.rel_base.specs.Limits.{most_workers}
use Rattle.rel_base.specs.declared.failure.Memory.{Memory}
use Rattle.myrial_ast.specs.CandidateFaults.{all_fit}
use Rattle.myrial_ast.specs.Combinations.{Row, Rows, emitted}
use Rattle.myrial_ast.specs.Scalars.{Scalar}
use Rattle.myrial_ast.specs.Groups.{Kinds}
use Rattle.myrial_ast.specs.Partials.{partial_rows, merged}
use Rattle.bag_laws.specs.PartialLaws.{AreGrouped}
use Rattle.aggregate_ops.proofs.EmitLemmas.{picked-wide}
use Rattle.aggregate_ops.specs.Columns.{Overflows}
use Rattle.aggregate_ops.specs.Forms.{merged_fits}
use Rattle.aggregate_ops.specs.declared.faults.AggFault.{AggFault}
use Rattle.aggregate_ops.specs.declared.faults.AggFault.TheVariants as fault
use Rattle.algebra.specs.declared.settings.Settings.{Settings}
use Rattle.rel_io.specs.declared.taps.Totals.{Totals}
use Rattle.placement.specs.Exchanges.{PlacedExchange}
use Rattle.placement.specs.Layouts.{together, by_worker}
use Rattle.routed_joins.specs.declared.moved.Moved.{Moved}
use Rattle.routed_joins.specs.TermRuns.{IsTermRun}
use Rattle.keyed_terms.specs.KeyedTerms.{emitted_parts, IsGroupFault, IsPickedFault}
use Rattle.keyed_terms.specs.inner.Making.{AreMadeBy, IsPicked, AreFormed, IsFaultOf, IsMerged}

-- the rows at a worker, whatever stands for those of others
pub rows-at : (parts : List Rows) (w : ℕ) (d : Rows) → w < length parts → d ≡ get_or parts w d → d ≡ get_or parts w []
rows-at parts w d below is = is ∙ get_or_default parts w d [] below

-- a worker has no more rows than all together
pub few-at : (parts : List Rows) (w : ℕ) → w < length parts → length (get_or parts w []) ≤ length (together parts)
few-at parts w below = omega (arith, get_or-le-sum_by (λ (rows : Rows). length rows) parts w [] below, length-flat_map (λ (rows : Rows). rows) parts)

-- numbers, one more
pub more-numbers : (n : ℕ) → range_with_len 0 (n + 1) ≡ range_with_len 0 n ++ n ∷ []
more-numbers n =
    sym (map-id (range_with_len 0 (n + 1))) ∙ map-range_with_len_more (λ (k : ℕ). k) 0 n n (omega arith)
    ∙ ap (λ (ks : List ℕ). ks ++ n ∷ []) (map-id (range_with_len 0 n))

-- workers, one more
pub more-workers : (f : ℕ → Rows) (w : ℕ) (made made' : List Rows) (rows : Rows) → made ≡ by_worker w f → rows ≡ f w → made' ≡ made ++ rows ∷ []
    → made' ≡ by_worker (w + 1) f
more-workers f w made made' rows so here is = is ∙ (λ i. so i ++ here i ∷ []) ∙ sym (map-range_with_len_more f 0 w w (omega arith))

-- what was made at each worker, taken together
pub gathered-made : {E : Type 0} (n : ℕ) (f : ℕ → Rows) (all : List (Result Rows E)) (made : List Rows) → length all ≡ n
    → ((w : ℕ) (d : Result Rows E) → w < n → IfOk (get_or all w d) (SameBag (f w))) → map Ok made ≡ all → AreMadeBy n f made
gathered-made n f all made long each is = record {
  count = count;
  rows_are = λ w below.
      subst (λ r. IfOk r (SameBag (f w)))
      (sym (ap (λ (l : List (Result Rows _)). get_or l w (Ok [])) is) ∙ get_or-map Ok made w [] (Ok []) (omega (arith, below, count)))
      (each w (Ok []) below);
}
  where
    count : length made ≡ n
    count = sym (length-map made Ok) ∙ ap length is ∙ long

-- ---- partial rows

pub few-together : (parts : List Rows) → length parts ≤ most_workers → ((v : ℕ) → v < length parts → length (get_or parts v []) < 2 ^ 32) → length (together parts) < 2 ^ 63
few-together parts workers few =
    let each : sum_by (λ (rows : Rows). length rows) parts ≤ length parts * 4294967296 =
    sum_by-le (λ (rows : Rows). length rows) 4294967296 parts
    (λ k d below. subst (λ (rows : Rows). length rows ≤ 4294967296) (get_or_default parts k [] d below) (omega (arith, few k below))) in
    omega (arith, length-flat_map (λ (rows : Rows). rows) parts, each, workers)

-- ---- partial rows of what rows emit

-- tests on all rows together
all-together : (p : Row → Bool) (parts : List Rows) → ((w : ℕ) → w < length parts → list_all p (get_or parts w []) ≡ true) → list_all p (together parts) ≡ true
all-together p [] each = refl
all-together p (rows ∷ parts) each =
    list_all-append p rows (together parts)
    ∙ (λ i. each 0 (omega arith) i && all-together p parts (λ w below. each (suc w) (omega (arith, below))) i)

module _ (kinds : Kinds) (picks : List Scalar) (parts : List Rows) (all : List (Result Rows Memory))
    (each : (w : ℕ) (d : Result Rows Memory) → w < length parts → IsPicked kinds picks (get_or parts w []) (get_or all w d)) (long : length all ≡ length parts) where
  emitted-at : (w : ℕ) → w < length parts → get_or (emitted_parts picks parts) w [] ≡ map (emitted picks) (get_or parts w [])
  emitted-at w below = get_or-map (map (emitted picks)) parts w [] [] below

  pub picked-rows : (w : ℕ) (d : Result Rows Memory) → w < length parts
      → IfOk (get_or all w d) (SameBag (partial_rows kinds (get_or (emitted_parts picks parts) w [])))
  picked-rows w d below =
      subst (λ (rows : Rows). IfOk (get_or all w d) (SameBag (partial_rows kinds rows))) (sym (emitted-at w below)) (each w d below).rows

  pub picked-few : length parts ≤ most_workers → length (together (emitted_parts picks parts)) < 2 ^ 63
  picked-few workers =
      few-together (emitted_parts picks parts) (omega (arith, workers, length-map parts (map (emitted picks))))
      (λ w below.
      let inside : w < length parts = omega (arith, below, length-map parts (map (emitted picks))) in
      omega (arith, (each w (Ok []) inside).few, ap length (emitted-at w inside), length-map (get_or parts w []) (emitted picks)))

  pub picked-fits : (made : List Rows) → map Ok made ≡ all → list_all (all_fit picks) (together parts) ≡ true
  picked-fits made is =
      let count : length made ≡ length parts = sym (length-map made Ok) ∙ ap length is ∙ long in
      all-together (all_fit picks) parts
      (λ w below.
      let at : get_or all w (Ok []) ≡ Ok (get_or made w []) =
      sym (ap (λ (l : List (Result Rows Memory)). get_or l w (Ok [])) is) ∙ get_or-map Ok made w [] (Ok []) (omega (arith, below, count)) in
      (subst (IsPicked kinds picks (get_or parts w [])) at (each w (Ok []) below)).fits)

-- the partial rows that were made of what rows emit
pub picked-formed : (kinds : Kinds) (picks : List Scalar) (parts : List Rows) (n : ℕ) (partials : List Rows) → length parts ≡ n → length kinds ≡ length picks
    → length (together (emitted_parts picks parts)) < 2 ^ 63
    → AreMadeBy (length parts) (λ w. partial_rows kinds (get_or (emitted_parts picks parts) w [])) partials
    → AreFormed kinds n (emitted_parts picks parts) partials
picked-formed kinds picks parts n partials workers wide few made = record {
  long = length-map parts (map (emitted picks)) ∙ workers;
  grouped = All-map (AreGrouped kinds) (map (emitted picks)) parts (λ k d below. picked-wide kinds picks (get_or parts k d) wide);
  few = few;
  made = subst (λ (m : ℕ). AreMadeBy m (λ w. partial_rows kinds (get_or (emitted_parts picks parts) w [])) partials) workers made;
}

-- a fault of the groups of what rows emit, where every number that is emitted fits
picked-fault : (kinds : Kinds) (picks : List Scalar) (parts : List Rows) (wrong : AggFault) → list_all (all_fit picks) (together parts) ≡ true
    → IsGroupFault kinds (emitted_parts picks parts) wrong → IsPickedFault kinds picks parts wrong
picked-fault kinds picks parts fault.AggregateOverflow fits h = (h, fits)
picked-fault kinds picks parts fault.Memory fits h = tt

pub picked-run : {T : Type 0} (s : Settings) (number : ℕ) (kinds : Kinds) (picks : List Scalar) (parts expected : List Rows) (exchanges : List PlacedExchange)
    (totals : T → Totals) (tag : T → ℕ) (before after : List T) (answer : Result Moved AggFault) → list_all (all_fit picks) (together parts) ≡ true
    → IsTermRun s number expected exchanges totals tag (IsGroupFault kinds (emitted_parts picks parts)) before after answer
    → IsTermRun s number expected exchanges totals tag (IsPickedFault kinds picks parts) before after answer
picked-run s number kinds picks parts expected exchanges totals tag before after answer fits run = record {
  fair = run.fair;
  ok = run.ok;
  err = IfErr-weaker answer (IsGroupFault kinds (emitted_parts picks parts)) (IsPickedFault kinds picks parts)
      (λ wrong h. picked-fault kinds picks parts wrong fits h) run.err;
}

-- what holds in any case holds on Ok
pub on-any : {X E : Type 0} {P : Type 0} (r : Result X E) → P → OnOk r P
on-any (Ok x) p = p
on-any (Err e) p = tt

-- ---- merged rows

pub all-fit : (p : Rows → Bool) (parts : List Rows) → ((v : ℕ) → v < length parts → p (get_or parts v []) ≡ true) → list_all p parts ≡ true
all-fit p [] fits = refl
all-fit p (rows ∷ parts) fits = (λ i. fits 0 (omega arith) i && list_all p parts) ∙ all-fit p parts (λ v below. fits (suc v) (omega (arith, below)))

pub one-fails : (p : Rows → Bool) (parts : List Rows) (w : ℕ) → w < length parts → p (get_or parts w []) ≡ false → list_all p parts ≡ false
one-fails p [] w below fails = absurd (omega (arith, below))
one-fails p (rows ∷ parts) zero below fails = λ i. fails i && list_all p parts
one-fails p (rows ∷ parts) (suc w) below fails = (λ i. p rows && one-fails p parts w (omega (arith, below)) fails i) ∙ by (p rows)
  where
    by : (b : Bool) → (b && false) ≡ false
    by true = refl
    by false = refl

-- ---- what merging answered at each worker

pub merged-ok : (kinds : Kinds) (partials : Rows) (r : Result Rows AggFault) → IsMerged kinds partials r → IfOk r (SameBag (merged kinds partials))
merged-ok kinds partials (Ok made) is = is.0
merged-ok kinds partials (Err wrong) is = tt

module _ (kinds : Kinds) (parts : List Rows) (all : List (Result Rows AggFault))
    (each : (w : ℕ) (d : Result Rows AggFault) → w < length parts → IsMerged kinds (get_or parts w []) (get_or all w d)) (long : length all ≡ length parts) where
  pub gathered-fits : (made : List Rows) → map Ok made ≡ all → list_all (merged_fits kinds) parts ≡ true
  gathered-fits made is =
      let count : length made ≡ length parts = sym (length-map made Ok) ∙ ap length is ∙ long in
      all-fit (merged_fits kinds) parts
      (λ w below.
      let at : get_or all w (Ok []) ≡ Ok (get_or made w []) =
      sym (ap (λ (l : List (Result Rows AggFault)). get_or l w (Ok [])) is) ∙ get_or-map Ok made w [] (Ok []) (omega (arith, below, count)) in
      (subst (IsMerged kinds (get_or parts w [])) at (each w (Ok []) below)).1)

  pub gathered-fault : (wrong : AggFault) → IsFaultOf all wrong → Overflows wrong (list_all (merged_fits kinds) parts)
  gathered-fault wrong (inl (w, below, is)) =
      let inside : w < length parts = omega (arith, below, long) in
      by wrong (subst (IsMerged kinds (get_or parts w [])) (is (Ok [])) (each w (Ok []) inside)) (one-fails (merged_fits kinds) parts w inside)
    where
      by : (wrong : AggFault) → Overflows wrong (merged_fits kinds (get_or parts w [])) → (merged_fits kinds (get_or parts w []) ≡ false → list_all (merged_fits kinds) parts ≡ false)
          → Overflows wrong (list_all (merged_fits kinds) parts)
      by fault.AggregateOverflow o fails = fails o
      by fault.Memory o fails = tt
  gathered-fault wrong (inr is) = subst (λ wrong. Overflows wrong (list_all (merged_fits kinds) parts)) (sym is) tt
