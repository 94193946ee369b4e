-- The steps of a script, one after another.
use Rattle.std.proofs.Common.{◌≡◌, ℕ, ◌+◌, ◌<◌, ◌≤◌, ◌++◌, ◌==◌, Bool, true, false, cond, IsTrue, List, [], ◌∷◌, map, take, drop, not, length, get_or, refl, sym, ap, subst, ◌∙◌, Ok, Some, None, Option, inl, inr, arith}
use Rattle.std.specs.Prelude.{⊤, All, Contains, filter, find, option_map, unwrap_or, IsSome}
use Rattle.std.specs.List.{flat_map}
use Rattle.std.proofs.lemmas.List.{append-nil, get_or-map, length-map, map-append, take_all, take_more, drop_all, drop_more, drop-map}
use Rattle.std.proofs.lemmas.List.Concat.{flat_map-append}
use Rattle.std.proofs.lemmas.List.Elements.{All-nil, All-head, All-tail, All-more, All-weaker}
use Rattle.rel_base.specs.Keys.{File}
use Rattle.rel_base.specs.Relations.{RelationState}
use Rattle.rel_base.specs.declared.faults.RunFault.{RunFault}
use Rattle.rel_base.specs.declared.relations.Column.{Column}
use Rattle.rel_base.specs.declared.faults.RunFault.TheVariants as fault
use Rattle.rel_io.specs.declared.taps.Totals.{Totals}
use Rattle.myrial_ast.specs.Combinations.{Rows}
use Rattle.bag_laws.specs.Permuted.{SameTables}
use Rattle.algebra.specs.declared.notes.PlanNote.TheVariants as note
use Rattle.algebra.specs.declared.settings.Settings.{Settings}
use Rattle.algebra.specs.declared.terms.Checked.{Checked}
use Rattle.algebra.specs.declared.terms.Source.{Source}
use Rattle.algebra.specs.declared.terms.Source.TheVariants as source
use Rattle.algebra.specs.declared.terms.Step.{Step}
use Rattle.algebra.specs.declared.terms.StoreStep.{StoreStep}
use Rattle.algebra.specs.CheckedTrees.{checked_tree_of, step_tree_of, term_tree_of}
use Rattle.algebra.specs.Conditions.{is_of}
use Rattle.algebra.specs.Meanings.{sources_of, term_fault}
use Rattle.algebra.specs.Rewriting.{AreTables, AreTyped, IsSameTerm, IsRewritten}
use Rattle.algebra.specs.Trees.{Shape, TermTree, Same, Empty, UnionAll, Diff, Distinct, Join, Group, StepTree, CheckedTree}
use Rattle.placement.specs.Stores.{AreStoredAt, no_store, a_store}
use Rattle.placement.specs.Exchanges.{PlacedExchange, term_exchanges, traffic_note}
use Rattle.placement.specs.Laws.{IsPlaced, IsPlacing, IsReady, HasReadyItems}
use Rattle.placement.specs.Layouts.{PlacedRelation, Placing, ByKeys, placed_file, placed_stores, rows_of, term_parts, together}
use Rattle.placement.specs.Plans.{ShuffleRule, placing_by, one_rule, plan_kind, step_notes}
use Rattle.placement.proofs.RuleLemmas.{ruled_is_placing, parts-by_own, exchanges-by_own, notes-by_own}
use Rattle.placement.specs.Runs.{size_of, run_exchanges, faults_by, faults_at, fault_of}
use Rattle.routed_joins.specs.PlacedJoins.{placed_rows, placed_items}
use Rattle.routed_joins.specs.declared.moved.Moved.{Moved}
use Rattle.routed_joins.specs.TermRuns.{shown_moves, AreShown, no_receipt, AreMoved, AreFair, IsMoved}
use Rattle.routed_joins.proofs.ReceiptLemmas.{joined-runs}
use Rattle.routed_joins.proofs.TapLemmas.{joined-moves}
use Rattle.run_laws.specs.Values.{IsKnown, meant}
use Rattle.plan_rewrite.specs.declared.rewriting.Planned.{Planned}
use Rattle.plan_rewrite.specs.Planned.{planned_tree_of, is_last_use}
use Rattle.run_laws.specs.Rewritten.{needed, numbers_of, IsStepAt}
use Rattle.run_laws.specs.Scripts.{placed_store, step_exchanges, HasTypedSources, IsSound}
use Rattle.run_laws.specs.Held.{parts_in, AreHeld, IsHeldStep, IsReadyStep, IsHeldResult, IsHeldStore}
use Rattle.run_laws.proofs.SourceLemmas.{in_front, behind, first_or_behind, nothing_in_none}
use Rattle.run_laws.proofs.NeededLemmas.{number-of}
use Rattle.run_laws.proofs.FoundLemmas.{found-some}
use Rattle.run_laws.proofs.MeantLemmas.{meant-related}
use Rattle.run_laws.proofs.RewrittenLemmas.{needed-own, steps_by_place, rewritten_are_kept}
use Rattle.run_laws.proofs.HeldLemmas.{results_are_held}
use Rattle.run_laws.proofs.LoopLemmas.{held_are_ready, one_more_is_held, stores_are_held}
use Rattle.run_laws.proofs.ScriptLemmas.{scripts_are_of_steps, results_are_found, faults_are_first}
use Rattle.run_laws.specs.BagRuns.{IsSameRun}
use Rattle.run_laws.proofs.RunLemmas.{run-same}
use Rattle.run_laws.proofs.TermLemmas.{terms_are_of_bags}
use Rattle.engine.specs.declared.held.Held.{Held}
use Rattle.engine.specs.declared.noted.Noted.{Noted}
use Rattle.engine.specs.declared.results.Ran.{Ran}
use Rattle.engine.specs.Runs.{IsRan, IsRunFault}
use Rattle.engine.specs.inner.Held.{IsHeld, parts_held, value_held, UsedAreHeld, IsJoinable, HasJoinable, IsRunnable}
use Rattle.engine.proofs.UsedLemmas.{ready-among, used-with-one-more, used-without-last, used-in-turn, stores-among}
use Rattle.engine.specs.inner.Steps.{held_exchanges, IsStepDone, numbered_exchanges, bare_exchanges, AreRun, schema_at, held_store}

-- ---- lists

-- what is found among mapped items
pub find-mapped : {X Y : Type 0} (f : X → Y) (test : Y → Bool) (xs : List X)
    → find test (map f xs) ≡ option_map f (find (λ x. test (f x)) xs)
find-mapped f test [] = refl
find-mapped f test (x ∷ xs) = by (test (f x)) (find-mapped f test xs)
  where
    by : (b : Bool) → find test (map f xs) ≡ option_map f (find (λ x. test (f x)) xs)
        → cond b (Some (f x)) (find test (map f xs)) ≡ option_map f (cond b (Some x) (find (λ x. test (f x)) xs))
    by true h = refl
    by false h = h

-- a list of lists with one item more
flat-more : {X A : Type 0} (f : X → List A) (xs : List X) (i : ℕ) (d : X) → i < length xs
    → flat_map f (take (i + 1) xs) ≡ flat_map f (take i xs) ++ f (get_or xs i d)
flat-more f xs i d l =
    ap (flat_map f) (take_more xs i d l) ∙ flat_map-append f (take i xs) (get_or xs i d ∷ [])
    ∙ ap (λ ys. flat_map f (take i xs) ++ ys) (append-nil (f (get_or xs i d)))

map-both : {X Y Z : Type 0} (f : Y → Z) (g : X → Y) (xs : List X) → map f (map g xs) ≡ map (λ x. f (g x)) xs
map-both f g [] = refl
map-both f g (x ∷ xs) = ap (λ ys. f (g x) ∷ ys) (map-both f g xs)

map-itself : {X : Type 0} (xs : List X) → map (λ x. x) xs ≡ xs
map-itself [] = refl
map-itself (x ∷ xs) = ap (λ ys. x ∷ ys) (map-itself xs)

-- ---- what a step asks

joined-by : (n : ℕ) (held : Held) (shape : Shape) (sources : List Source) → IsReady n shape (map (value_held held) sources)
    → AreTables shape.atoms (rows_of (map (value_held held) sources)) → IsJoinable n shape (map (parts_held held) sources)
joined-by n held shape sources h k =
    let same : map (value_held held) sources ≡ placed_items (map (parts_held held) sources) =
    sym (map-both placed_rows (parts_held held) sources) in
    record { ready = subst (IsReady n shape) same h; typed = subst (λ items. AreTables shape.atoms (rows_of items)) same k }

joinable-by : (n : ℕ) (held : Held) (schema : List Column) (t : TermTree) → HasReadyItems n (value_held held) t
    → HasTypedSources schema (value_held held) t → HasJoinable n held t
joinable-by n held schema (Same s) h k = tt
joinable-by n held schema Empty h k = tt
joinable-by n held schema (UnionAll s t) h k = tt
joinable-by n held schema (Diff s t) h k = tt
joinable-by n held schema (Distinct s) h k = tt
joinable-by n held schema (Join shape sources) h k = joined-by n held shape sources h k
joinable-by n held schema (Group shape sources kinds) h k = (joined-by n held shape sources h.0 k, h.1)

-- ---- faults

module _ (own all : Option RunFault) (first : (e : RunFault) → own ≡ Some e → all ≡ Some e) where
  -- a fault of one thing is that of all
  pub fault-of-all : (e : RunFault) → IsRunFault own e → IsRunFault all e
  fault-of-all fault.Memory h = tt
  fault-of-all (fault.TooManyRows n) h = first (fault.TooManyRows n) h
  fault-of-all (fault.Overflow n) h = first (fault.Overflow n) h
  fault-of-all (fault.AggregateOverflow n) h = first (fault.AggregateOverflow n) h

-- ---- a step that was run by its own rule

-- it looks at no other
by-own : {T : Type 0} (s : Settings) (rules : ℕ → ShuffleRule) (t : StepTree) (stores : List StoreStep) (later : List StepTree)
    (held after_held : Held) (noted after_noted : Noted) (totals : T → Totals) (tag : T → ℕ) (before after : List T)
    → IsStepDone s (one_rule (rules t.statement)) t stores later held after_held noted after_noted totals tag before after
    → IsStepDone s rules t stores later held after_held noted after_noted totals tag before after
by-own s rules t stores later held after_held noted after_noted totals tag before after done =
    let parts = sym (parts-by_own s rules t.statement (value_held held) t.term) in
    let exchanges = sym (exchanges-by_own s rules t.statement (value_held held) t.term) in
    let lines = sym (notes-by_own s rules t.statement (value_held held) s.local t.term) in
    record {
      made = done.made;
      receipts = done.receipts;
      files = done.files;
      results = done.results;
      parts = subst (λ ps. SameTables ps done.made) parts done.parts;
      plan = done.plan
          ∙ ap (λ ls. noted.plan ++ note.Statement t.statement (plan_kind t.term) (length (together done.made)) ∷ ls) lines;
      traffic = done.traffic
          ∙ ap (λ es. noted.traffic ++ map (λ (e : PlacedExchange). traffic_note s.workers (t.statement, e)) es) exchanges;
      noted_receipts = done.noted_receipts;
      shown = subst (λ es. AreShown (size_of s) (flat_map shown_moves es) done.receipts) exchanges done.shown;
      moved = subst (λ es. AreMoved totals tag s.workers es before after) exchanges done.moved;
      sound = done.sound;
    }

-- ---- a step more

module _ {T : Type 0} (s : Settings) (rules : ℕ → ShuffleRule) (files : List File) (c : CheckedTree) (of_files : IsTrue (is_of files c))
    (typed : AreTyped files) (totals : T → Totals) (tag : T → ℕ) (i : ℕ) (a : StepTree) (l : i < length (needed c))
    (pushed : StepTree) (later : List StepTree) (alike : sources_of (get_or (needed c) i a).term ≡ sources_of pushed.term)
    (held : Held) (noted : Noted) (before middle : List T)
    (run : AreRun s rules files c (take i (needed c)) (pushed ∷ later) held noted totals tag before middle) where
  abbrev p : Placing
  p = placing_by s rules

  abbrev x : StepTree
  x = get_or (needed c) i a

  abbrev value : Source → PlacedRelation
  value = meant p files c

  good : IsPlacing p
  good = ruled_is_placing s rules s.workers_in_range.0

  there : All (IsHeld held) (sources_of x.term) × IsReadyStep p files c (parts_held held) x
  there =
      ready-among p files c held.files run.every held.results.items x pushed later alike run.used
      (held_are_ready p files c good of_files typed held.files run.every i a l run.made_as_meant)

  ready : IsReadyStep p files c (parts_held held) x
  ready = there.1

  -- what it asks is there
  pub runnable : IsRunnable s.workers (length x.schema) held x.term
  runnable = record {
    known = there.0;
    at_workers =
        All-weaker (λ o. IsPlaced s.workers (value_held held o)) (λ o. length (parts_held held o) ≡ s.workers)
        (λ o h. h.each_worker) (sources_of x.term) ready.placed;
    wide = ready.wide;
    joinable = joinable-by s.workers held x.schema x.term ready.ready ready.typed;
  }

  as-meant : IsSameRun s rules x.statement value (value_held held) x.term
  as-meant = terms_are_of_bags s rules x.statement value (value_held held) x.term ready.same

  abbrev own_fault : Option RunFault
  own_fault = term_fault (faults_at s rules x.statement) x.statement (λ o. (value_held held o).relation.rows) x.term

  -- its fault is that of the script
  pub first-fault : (e : RunFault) → IsRunFault own_fault e → IsRunFault (fault_of s rules files c) e
  first-fault =
      fault-of-all own_fault (fault_of s rules files c)
      (λ e h. (faults_are_first p files c of_files (faults_at s rules)).first i a l run.sound e
      (as-meant.fault (faults_at s rules x.statement) ∙ h))

  module _ (after_held : Held) (after_noted : Noted) (after : List T) (fair : AreFair totals tag middle after)
      (done : IsStepDone s rules x c.stores later held after_held noted after_noted totals tag middle after) where
    abbrev exchanges : List PlacedExchange
    exchanges = term_exchanges p x.statement value x.term

    abbrev moved_by : Moved
    moved_by = record {
      parts = done.made;
      traffic = map (λ (e : PlacedExchange). traffic_note s.workers (x.statement, e)) (held_exchanges s rules held x);
      receipts = done.receipts;
    }

    moved : IsMoved s x.statement (term_parts p x.statement value x.term) exchanges moved_by
        × AreMoved totals tag s.workers exchanges middle after
    moved =
        (run-same totals tag s x.statement (term_parts p x.statement (value_held held) x.term)
        (term_parts p x.statement value x.term) (held_exchanges s rules held x) exchanges (λ (e : RunFault). ⊤) middle after (Ok moved_by)
        as-meant.parts as-meant.exchanges (record {
          fair = fair;
          ok = (record { parts = done.parts; traffic = refl; receipts = done.shown }, done.moved);
          err = tt;
        })).ok

    result : IsHeldResult s rules files c (parts_held held) x done.made
    result =
        results_are_held s rules files c s.workers_in_range.0 of_files typed (parts_held held) i a l ready.same done.made moved.0.parts

    numbered : numbered_exchanges s rules files c (take (i + 1) (needed c))
        ≡ numbered_exchanges s rules files c (take i (needed c)) ++ step_exchanges p value x
    numbered = flat-more (step_exchanges p value) (needed c) i a l

    bare : bare_exchanges s rules files c (take (i + 1) (needed c)) ≡ bare_exchanges s rules files c (take i (needed c)) ++ exchanges
    bare =
        ap (map (λ (e : ℕ × PlacedExchange). e.1)) numbered
        ∙ map-append (λ (e : ℕ × PlacedExchange). e.1) (numbered_exchanges s rules files c (take i (needed c))) (step_exchanges p value x)
        ∙ ap (λ es. bare_exchanges s rules files c (take i (needed c)) ++ es)
        (map-both (λ (e : ℕ × PlacedExchange). e.1) (λ e. (x.statement, e)) exchanges ∙ map-itself exchanges)

    -- with it one step more has run
    pub one-more : AreRun s rules files c (take (i + 1) (needed c)) later after_held after_noted totals tag before after
    one-more = record {
      every = run.every ++ (x.statement, done.made) ∷ [];
      made_as_meant =
          subst (λ dealt. AreHeld p files c (take (i + 1) (needed c)) dealt (run.every ++ (x.statement, done.made) ∷ []))
          (sym done.files)
          (one_more_is_held p files c of_files held.files run.every i a l run.made_as_meant done.made result.rows);
      used =
          used-in-turn c.stores later (run.every ++ (x.statement, done.made) ∷ [])
          (held.results.items ++ (x.statement, done.made) ∷ []) after_held.results.items
          (used-with-one-more c.stores run.every held.results.items pushed later ((x.statement, done.made) ∷ []) run.used)
          done.results;
      plan =
          done.plan ∙ (λ k. run.plan k ++ sym (result.lines s.local) k)
          ∙ sym (flat-more (step_notes p s.local value) (needed c) i a l);
      traffic =
          done.traffic
          ∙ (λ k. run.traffic k ++ (moved.0.traffic ∙ sym (map-both (traffic_note s.workers) (λ e. (x.statement, e)) exchanges)) k)
          ∙ sym (map-append (traffic_note s.workers) (numbered_exchanges s rules files c (take i (needed c))) (step_exchanges p value x))
          ∙ ap (map (traffic_note s.workers)) (sym numbered);
      receipts =
          subst (AreShown (size_of s) (flat_map shown_moves (bare_exchanges s rules files c (take (i + 1) (needed c)))))
          (sym done.noted_receipts)
          (subst (λ es. AreShown (size_of s) (flat_map shown_moves es) (noted.receipts ++ done.receipts)) (sym bare)
          (subst (λ ms. AreShown (size_of s) ms (noted.receipts ++ done.receipts))
          (sym (flat_map-append shown_moves (bare_exchanges s rules files c (take i (needed c))) exchanges))
          (joined-runs.receipts (size_of s) (flat_map shown_moves (bare_exchanges s rules files c (take i (needed c))))
          (flat_map shown_moves exchanges) noted.receipts done.receipts run.receipts moved.0.receipts)));
      moved =
          subst (λ es. AreMoved totals tag s.workers es before after) (sym bare)
          ((joined-moves totals tag).joined s.workers (bare_exchanges s rules files c (take i (needed c))) exchanges before middle after
          run.moved moved.1);
      sound =
          All-more (IsSound p (faults_at s rules) files c) (needed c) i a l run.sound
          (as-meant.fault (faults_at s rules x.statement) ∙ done.sound);
    }

-- ---- letting go

-- a run goes on where results are let go that are used no more
pub let-go-last : {T : Type 0} (s : Settings) (rules : ℕ → ShuffleRule) (files : List File) (c : CheckedTree) (steps : List StepTree) (step : StepTree)
    (later : List StepTree) (held after_held : Held) (noted : Noted) (totals : T → Totals) (tag : T → ℕ) (before after : List T)
    → AreRun s rules files c steps later held noted totals tag before after → after_held.files ≡ held.files
    → after_held.results.items
    ≡ filter (λ (r : ℕ × List Rows). not (is_last_use r.0 c.stores (step ∷ later))) held.results.items
    → AreRun s rules files c steps later after_held noted totals tag before after
let-go-last s rules files c steps step later held after_held noted totals tag before after run same_files kept = record {
  every = run.every;
  made_as_meant = subst (λ dealt. AreHeld (placing_by s rules) files c steps dealt run.every) (sym same_files) run.made_as_meant;
  used =
      subst (UsedAreHeld c.stores later run.every) (sym kept)
      (used-without-last c.stores run.every held.results.items step later run.used);
  plan = run.plan;
  traffic = run.traffic;
  receipts = run.receipts;
  moved = run.moved;
  sound = run.sound;
}

-- ---- the loop over the rewritten steps

module _ (files : List File) (checked : Checked) (of_files : IsTrue (is_of files (checked_tree_of checked)))
    (planned : Planned) (same : IsRewritten (checked_tree_of checked) (planned_tree_of planned)) where
  abbrev script : CheckedTree
  script = checked_tree_of checked

  -- a step of the rewritten script, and that of the script with its number
  pub record IsTurn (i : ℕ) (step pushed : Step) : Type 0 where
    pub low : i < length (needed script)
    pub alike : sources_of (get_or (needed script) i (step_tree_of step)).term ≡ sources_of (step_tree_of pushed).term
    pub own : get_or (needed script) i (step_tree_of step) ≡ step_tree_of step
    pub term : IsSameTerm (term_tree_of step.term) (term_tree_of pushed.term)

  many : length planned.steps ≡ length (needed script)
  many =
      sym (length-map planned.steps step_tree_of)
      ∙ (rewritten_are_kept files script (planned_tree_of planned) of_files same).many

  module _ (steps : List Step) (handed : steps ≡ planned.steps) where
    -- all steps have run once the rewritten ones have
    pub all-taken : (i : ℕ) → length steps ≤ i → take i (needed script) ≡ needed script
    all-taken i past = take_all i (needed script) (omega (arith, past, ap length handed, many))

    pub none-left : (i : ℕ) → length steps ≤ i → drop i (map step_tree_of steps) ≡ []
    none-left i past = drop_all i (map step_tree_of steps) (omega (arith, past, length-map steps step_tree_of))

    pub same-stores : planned.stores ≡ script.stores
    same-stores = (rewritten_are_kept files script (planned_tree_of planned) of_files same).stores

    module _ (i : ℕ) (pushed : Step) (l : i < length steps) (is : pushed ≡ get_or steps i pushed) where
      here : step_tree_of pushed ≡ get_or (planned_tree_of planned).steps i (step_tree_of pushed)
      here =
          ap step_tree_of (is ∙ ap (λ (xs : List Step). get_or xs i pushed) handed)
          ∙ sym (get_or-map step_tree_of planned.steps i pushed (step_tree_of pushed) (omega (arith, l, ap length handed)))

      -- it is the first of the steps that are left
      first-left : drop i (map step_tree_of steps) ≡ step_tree_of pushed ∷ drop (i + 1) (map step_tree_of steps)
      first-left =
          drop_more (map step_tree_of steps) i (step_tree_of pushed) (omega (arith, l, length-map steps step_tree_of))
          ∙ ap (λ (s : StepTree). s ∷ drop (i + 1) (map step_tree_of steps))
          (get_or-map step_tree_of steps i pushed (step_tree_of pushed) l ∙ ap step_tree_of (sym is))

      at : (a : StepTree) → IsStepAt files script i (get_or (needed script) i a) (step_tree_of pushed)
      at a =
          subst (IsStepAt files script i (get_or (needed script) i a)) (sym here)
          (steps_by_place files script (planned_tree_of planned) of_files same i a (step_tree_of pushed)
          (omega (arith, l, ap length handed, length-map planned.steps step_tree_of)))

      abbrev found_step : Option Step
      found_step = find (λ (s : Step). s.statement == pushed.statement) checked.steps

      found-is : (a : StepTree) → option_map step_tree_of found_step ≡ Some (get_or (needed script) i a)
      found-is a =
          sym (find-mapped step_tree_of (λ (s : StepTree). s.statement == pushed.statement) checked.steps) ∙ (at a).found

      pub is-found : None ≡ found_step → ⊥
      is-found none =
          let never : None ≡ Some (get_or (needed script) i (step_tree_of pushed)) =
          ap (option_map step_tree_of) none ∙ found-is (step_tree_of pushed) in
          absurd (cc)

      pub turn : (step : Step) → Some step ≡ found_step → IsTurn i step pushed
      turn step found =
          let a = step_tree_of step in
          let own : get_or (needed script) i a ≡ a =
          ap (λ (o : Option StepTree). unwrap_or o a) (sym (found-is a) ∙ ap (option_map step_tree_of) (sym found)) in
          record {
            low = omega (arith, l, ap length handed, many);
            alike = (at a).sources;
            own = own;
            term = subst (λ (t : StepTree). IsSameTerm t.term (term_tree_of pushed.term)) own (at a).same.term;
          }

      module _ {T : Type 0} (s : Settings) (rules : ℕ → ShuffleRule) (typed : AreTyped files) (totals : T → Totals) (tag : T → ℕ) (held : Held)
          (noted : Noted) (before middle : List T)
          (run : AreRun s rules files script (take i (needed script)) (drop i (map step_tree_of steps)) held noted totals tag before middle)
          (step : Step) (found : Some step ≡ found_step) where
        abbrev later : List StepTree
        later = drop (i + 1) (map step_tree_of steps)

        behind-left : (left : List Step) → left ≡ drop i steps → drop 1 (map step_tree_of left) ≡ later
        behind-left left same =
            ap (drop 1) (ap (map step_tree_of) same ∙ sym (drop-map step_tree_of i steps) ∙ first-left)

        run-from : AreRun s rules files script (take i (needed script)) (step_tree_of pushed ∷ later) held noted totals tag before middle
        run-from =
            subst (λ left. AreRun s rules files script (take i (needed script)) left held noted totals tag before middle)
            first-left run

        pub turn-runnable : IsRunnable s.workers (length step.schema) held (term_tree_of step.term)
        turn-runnable =
            let t = turn step found in
            subst (λ (x : StepTree). IsRunnable s.workers (length x.schema) held x.term) t.own
            (runnable s rules files script of_files typed totals tag i (step_tree_of step) t.low (step_tree_of pushed) later t.alike held
            noted before middle run-from)

        pub turn-fault : (way : ShuffleRule) → way ≡ rules step.statement → (e : RunFault)
            → IsRunFault (term_fault (faults_by s way) step.statement (λ o. (value_held held o).relation.rows)
            (term_tree_of step.term)) e → IsRunFault (fault_of s rules files script) e
        turn-fault way is_way e own =
            let t = turn step found in
            let its = subst (λ w. IsRunFault (term_fault (faults_by s w) step.statement (λ o. (value_held held o).relation.rows)
            (term_tree_of step.term)) e) is_way own in
            subst (λ (x : StepTree). IsRunFault (term_fault (faults_at s rules x.statement) x.statement
            (λ o. (value_held held o).relation.rows) x.term) e → IsRunFault (fault_of s rules files script) e) t.own
            (first-fault s rules files script of_files typed totals tag i (step_tree_of step) t.low (step_tree_of pushed) later t.alike
            held noted before middle run-from e) its

        pub turn-done : (after_held : Held) (after_noted : Noted) (after : List T) → AreFair totals tag middle after
            → (left : List Step) → left ≡ drop i steps → (way : ShuffleRule) → way ≡ rules step.statement
            → IsStepDone s (one_rule way) (step_tree_of step) planned.stores (drop 1 (map step_tree_of left)) held after_held noted
            after_noted totals tag middle after
            → (kept_held : Held) → kept_held.files ≡ after_held.files
            → kept_held.results.items ≡ filter (λ (r : ℕ × List Rows).
            not (is_last_use r.0 planned.stores (map step_tree_of left))) after_held.results.items
            → AreRun s rules files script (take (i + 1) (needed script)) later kept_held after_noted totals tag before after
        turn-done after_held after_noted after fair left same_left way is_way own_done kept_held same_files kept =
            let t = turn step found in
            let behind = drop 1 (map step_tree_of left) in
            let done = by-own s rules (step_tree_of step) planned.stores behind held after_held noted after_noted totals tag middle after
            (subst (λ w. IsStepDone s (one_rule w) (step_tree_of step) planned.stores behind held after_held noted after_noted totals tag
            middle after) is_way own_done) in
            let of_left : List StoreStep → List StepTree → List (ℕ × List Rows) =
            λ stores left. filter (λ (r : ℕ × List Rows). not (is_last_use r.0 stores left)) after_held.results.items in
            let-go-last s rules files script (take (i + 1) (needed script)) (step_tree_of pushed) later after_held kept_held after_noted totals
            tag before after
            (one-more s rules files script of_files typed totals tag i (step_tree_of step) t.low (step_tree_of pushed) later t.alike held
            noted before middle run-from after_held after_noted after fair
            (subst (λ x. IsStepDone s rules x script.stores later held after_held noted after_noted totals tag middle after) (sym t.own)
            (subst (λ behind. IsStepDone s rules (step_tree_of step) script.stores behind held after_held noted after_noted totals tag middle
            after) (behind-left left same_left)
            (subst (λ stores. IsStepDone s rules (step_tree_of step) stores (drop 1 (map step_tree_of left)) held after_held noted after_noted
            totals tag middle after) same-stores done))))
            same_files
            (kept ∙ ap (λ (stores : List StoreStep). of_left stores (map step_tree_of left)) same-stores
            ∙ ap (of_left script.stores) (ap (map step_tree_of) same_left ∙ sym (drop-map step_tree_of i steps) ∙ first-left))

-- ---- the first step

pub none-run : {T : Type 0} (s : Settings) (rules : ℕ → ShuffleRule) (files : List File) (c : CheckedTree) (left : List StepTree) (held : Held)
    (noted : Noted) (totals : T → Totals) (tag : T → ℕ) (taps : List T)
    → held.files ≡ map (λ (f : File). (placed_file s.workers f.1).parts) files → held.results.items ≡ []
    → noted.plan ≡ [] → noted.traffic ≡ [] → noted.receipts ≡ [] → AreRun s rules files c [] left held noted totals tag taps taps
none-run s rules files c left held noted totals tag taps dealt results plan traffic receipts = record {
  every = [];
  made_as_meant = record {
    files_dealt = dealt;
    numbers = refl;
    rows = All-nil (IsHeldStep (placing_by s rules) files c (parts_in held.files []));
  };
  used = subst (UsedAreHeld c.stores left []) (sym results) (λ number h. refl);
  plan = plan;
  traffic = traffic;
  receipts = subst (AreShown (size_of s) []) (sym receipts) no_receipt;
  moved = (joined-moves totals tag).none s.workers taps;
  sound = All-nil (IsSound (placing_by s rules) (faults_at s rules) files c);
}

-- ---- stores, and the end

module _ (p : Placing) (files : List File) (c : CheckedTree) (held : Held) where
  each-stored : (ts : List StoreStep) → All (IsHeldStore p files c held.files held.results.items) ts
      → AreStoredAt (map (held_store files c held) ts) (map (placed_store p files c) ts)
  each-stored [] h = no_store
  each-stored (t ∷ ts) h =
      a_store (held_store files c held t) (placed_store p files c t) (map (held_store files c held) ts)
      (map (placed_store p files c) ts)
      (record {
        key = refl;
        schema = ap (λ (r : RelationState). r.schema) (sym (meant-related p files c t.source));
        parts = (All-head (IsHeldStore p files c held.files held.results.items) t ts h).rows;
      })
      (each-stored ts (All-tail (IsHeldStore p files c held.files held.results.items) t ts h))

module _ {T : Type 0} (s : Settings) (rules : ℕ → ShuffleRule) (files : List File) (c : CheckedTree) (of_files : IsTrue (is_of files c)) (held : Held)
    (noted : Noted) (totals : T → Totals) (tag : T → ℕ) (before after : List T)
    (run : AreRun s rules files c (needed c) [] held noted totals tag before after) where
  stores-held : All (IsHeldStore (placing_by s rules) files c held.files held.results.items) c.stores
  stores-held =
      stores-among held.files run.every held.results.items (placing_by s rules) files c run.used
      (stores_are_held (placing_by s rules) files c of_files held.files run.every run.made_as_meant)

  -- what is stored is held
  pub sources-held : All (λ (t : StoreStep). IsHeld held t.source) c.stores
  sources-held =
      All-weaker (IsHeldStore (placing_by s rules) files c held.files held.results.items) (λ (t : StoreStep). IsHeld held t.source)
      (λ t h. h.there) c.stores stores-held

  -- where all steps have run, the script has
  pub all-ran : (ran : Ran) → ran.stored ≡ map (held_store files c held) c.stores → ran.plan ≡ noted.plan
      → ran.traffic ≡ noted.traffic → ran.receipts ≡ noted.receipts
      → IsRan s rules files c ran × AreMoved totals tag s.workers (run_exchanges s rules files c) before after
  all-ran ran stored plan traffic receipts =
      let steps = scripts_are_of_steps (placing_by s rules) files c in (
        record {
          sound = (faults_are_first (placing_by s rules) files c of_files (faults_at s rules)).none run.sound;
          stored =
              subst (λ made. AreStoredAt made (placed_stores (placing_by s rules) files c)) (sym stored)
              (subst (AreStoredAt (map (held_store files c held) c.stores)) (sym steps.placed)
              (each-stored (placing_by s rules) files c held c.stores stores-held));
          plan = plan ∙ run.plan ∙ sym (steps.plan s.local);
          traffic = traffic ∙ run.traffic ∙ ap (map (traffic_note s.workers)) (sym steps.exchanges);
          receipts =
              subst (AreShown (size_of s) (flat_map shown_moves (run_exchanges s rules files c))) (sym receipts)
              (subst (λ (es : List (ℕ × PlacedExchange)). AreShown (size_of s)
              (flat_map shown_moves (map (λ (e : ℕ × PlacedExchange). e.1) es)) noted.receipts)
              (sym steps.exchanges) run.receipts);
        },
        subst (λ (es : List (ℕ × PlacedExchange)). AreMoved totals tag s.workers (map (λ (e : ℕ × PlacedExchange). e.1) es)
            before after) (sym steps.exchanges) run.moved,
      )

-- ---- the step of a source

some-of : {X Y : Type 0} (f : X → Y) (o : Option X) → IsSome (option_map f o) → IsSome o
some-of f (Some y) h = refl
some-of f None h = h

-- the number of some of these steps is that of one of those
among-numbers : (xs ys : List StepTree) (number : ℕ) → ((x : StepTree) → Contains xs x → Contains ys x)
    → Contains (numbers_of xs) number → Contains (numbers_of ys) number
among-numbers [] ys number among h = absurd (nothing_in_none number h)
among-numbers (x ∷ xs) ys number among h = elim (first_or_behind x.statement (numbers_of xs) number h) [
  | inl same ↦ subst (Contains (numbers_of ys)) same (number-of ys x (among x (in_front x xs)))
  | inr others ↦ among-numbers xs ys number (λ y k. among y (behind x xs y k)) others
]

-- there is a step of the number
number-found : (steps : List StepTree) (number : ℕ) → Contains (numbers_of steps) number
    → IsSome (find (λ (s : StepTree). s.statement == number) steps)
number-found steps number h =
    let pair : StepTree → ℕ × StepTree = λ s. (s.statement, s) in
    some-of pair (find (λ (s : StepTree). s.statement == number) steps)
    (subst IsSome (find-mapped pair (λ (r : ℕ × StepTree). r.0 == number) steps)
    (found-some (map pair steps) number
    (subst (λ ns. Contains ns number) (sym (map-both (λ (r : ℕ × StepTree). r.0) pair steps)) h)))

-- a known result is that of a step
pub result-found : (files : List File) (checked : Checked) (number : ℕ)
    → IsKnown files (needed (checked_tree_of checked)) (source.Result number)
    → None ≡ find (λ (s : Step). s.statement == number) checked.steps → ⊥
result-found files checked number h none =
    let c = checked_tree_of checked in
    let there : IsSome (find (λ (s : StepTree). s.statement == number) c.steps) =
    number-found c.steps number
    (among-numbers (needed c) c.steps number (needed-own c) h) in
    let lost : find (λ (s : StepTree). s.statement == number) c.steps ≡ None =
    find-mapped step_tree_of (λ (s : StepTree). s.statement == number) checked.steps ∙ ap (option_map step_tree_of) (sym none) in
    let gone : IsSome {T = StepTree} None = subst IsSome lost there in
    absurd (cc)

-- whatever the workers are, its columns are that step's
by-keys : Placing
by-keys = record { workers = 1; seed = 0; reduce = false; shuffle = λ number shape given. ByKeys }

module _ (files : List File) (checked : Checked) (of_files : IsTrue (is_of files (checked_tree_of checked))) where
  pub result-schema : (number : ℕ) (step : Step) → Some step ≡ find (λ (s : Step). s.statement == number) checked.steps
      → step.schema ≡ schema_at files (checked_tree_of checked) (source.Result number)
  result-schema number step found =
      ap (λ (q : PlacedRelation). q.relation.schema)
      (sym (results_are_found by-keys files (checked_tree_of checked) of_files number (step_tree_of step)
      (find-mapped step_tree_of (λ (s : StepTree). s.statement == number) checked.steps
      ∙ ap (option_map step_tree_of) (sym found))))
      ∙ ap (λ (r : RelationState). r.schema) (meant-related by-keys files (checked_tree_of checked) (source.Result number))
