-- A rewritten script stores what the script stores, and has its fault.
use Rattle.std.proofs.Common.{◌≡◌, ◌∙◌, ℕ, ◌-◌, ◌==◌, Bool, true, false, cond, find, fold, List, [], ◌∷◌, length, map, refl, sym, ap, None, Some}
use Rattle.std.specs.Prelude.{◌&&◌, ◌||◌, filter, is_some, option_map, unwrap_or}
use Rattle.std.specs.List.{enumerate_from, list_any, range_with_len}
use Rattle.std.proofs.lemmas.Bool.{eq-eqb, eqb-true, or_left, or_right}
use Rattle.rel_base.specs.declared.faults.RunFault.TheVariants as fault
use Rattle.rel_base.specs.Keys.{File}
use Rattle.rel_base.specs.Relations.{RelationState}
use Rattle.myrial_ast.specs.Bags.{union_all, distinct, difference}
use Rattle.myrial_ast.specs.CandidateFaults.{PrefixRule, Counted, Uncounted, FaultRule, join_fault, too_many}
use Rattle.myrial_ast.specs.Combinations.{Rows, listed_from}
use Rattle.myrial_ast.specs.Groups.{Kinds, groups}
use Rattle.myrial_ast.specs.JoinTrees.{is_acyclic, all_items}
use Rattle.myrial_ast.specs.ReducedRows.{takes_part}
use Rattle.algebra.specs.declared.terms.Source.{Source}
use Rattle.algebra.specs.declared.terms.Source.TheVariants as source
use Rattle.algebra.specs.declared.terms.StoreStep.{StoreStep}
use Rattle.algebra.specs.Meanings.{checked_fault, first_fault, found, has_long_prefix, is_result, is_used, needed_steps, no_relation, relations_of, shape_fault, sources_of, step_relation, step_relations, stored_by, term_fault, term_rows, uses}
use Rattle.algebra.specs.Shapes.{joined_tables, listed_of}
use Rattle.algebra.specs.Trees.{CheckedTree, Shape, StepTree, TermTree, Same, Empty, UnionAll, Diff, Distinct, Join, Group}
use Rattle.plan_rewrite.specs.inner.Pushing.{pushed}
use Rattle.plan_rewrite.specs.inner.Steps.{pushed_step, pushed_term, rewritten}
use Rattle.plan_rewrite.proofs.ListLemmas.{Each}
use Rattle.plan_rewrite.proofs.PushingLemmas.{candidates-same, kept-same, prefix-same, pushed-widths}

abbrev Results : Type 0
Results = List (ℕ × RelationState)

map-same : {X Y : Type 0} (f g : X → Y) (xs : List X) → Each (λ x. f x ≡ g x) xs → map f xs ≡ map g xs
map-same f g [] h = refl
map-same f g (x ∷ xs) h = λ i. h.0 i ∷ map-same f g xs h.1 i

-- ---- joins

listed-same : (s : Shape) (tables : List Rows) → listed_of s tables ≡ listed_of (pushed s) tables
listed-same s tables = ap (listed_from s.arith s.emits) (candidates-same s tables)

long-same : (rule : PrefixRule) (s : Shape) (tables : List Rows) → has_long_prefix rule s tables ≡ has_long_prefix rule (pushed s) tables
long-same Counted s tables = λ t. list_any (λ i. too_many (prefix-same s i tables t)) (range_with_len 1 (length tables - 1))
long-same Uncounted s tables = refl

-- what is joined is told by the numbers of columns, the variables and the kept rows
joined-same : (reduce : Bool) (s : Shape) (tables : List Rows) → joined_tables reduce s tables ≡ joined_tables reduce (pushed s) tables
joined-same reduce s tables = λ t.
    cond (reduce && is_acyclic (sym (pushed-widths s) t) s.variables (all_items (sym (pushed-widths s) t)))
    (map (λ (e : ℕ × Rows). filter (takes_part s.variables (map (λ (o : ℕ × Rows). kept-same s o.0 o.1 t) (enumerate_from 0 tables)) e.0) (kept-same s e.0 e.1 t)) (enumerate_from 0 tables))
    tables

fault-same : (rule : FaultRule) (number : ℕ) (s : Shape) (kinds : Kinds) (tables : List Rows)
    → shape_fault rule number s kinds tables ≡ shape_fault rule number (pushed s) kinds tables
fault-same rule number s kinds tables = λ t. join_fault number (long t) s.arith s.emits kinds (candidates-same s tables t)
  where
    long : has_long_prefix rule.prefixes s (joined_tables rule.reduce s tables)
        ≡ has_long_prefix rule.prefixes (pushed s) (joined_tables rule.reduce (pushed s) tables)
    long = ap (has_long_prefix rule.prefixes s) (joined-same rule.reduce s tables)
        ∙ long-same rule.prefixes s (joined_tables rule.reduce (pushed s) tables)

-- ---- what is used

sources-pushed : (t : TermTree) → sources_of (pushed_term t) ≡ sources_of t
sources-pushed (Same s) = refl
sources-pushed Empty = refl
sources-pushed (UnionAll s t) = refl
sources-pushed (Diff s t) = refl
sources-pushed (Distinct s) = refl
sources-pushed (Join shape sources) = refl
sources-pushed (Group shape sources kinds) = refl

uses-pushed : (k : ℕ) (steps : List StepTree) → list_any (uses k) (map pushed_step steps) ≡ list_any (uses k) steps
uses-pushed k [] = refl
uses-pushed k (s ∷ steps) = λ i. list_any (is_result k) (sources-pushed s.term i) || uses-pushed k steps i

module _ (stores : List StoreStep) where
  abbrev is_stored : ℕ → Bool
  is_stored k = list_any (λ (t : StoreStep). is_result k t.source) stores

  used-pushed : (k : ℕ) (steps : List StepTree) → is_used k stores (map pushed_step steps) ≡ is_used k stores steps
  used-pushed k steps = ap (λ b. list_any (λ (t : StoreStep). is_result k t.source) stores || b) (uses-pushed k steps)

  -- what is needed, pushed, needs all of itself
  needed-again : (steps : List StepTree) → needed_steps stores (map pushed_step (needed_steps stores steps)) ≡ map pushed_step (needed_steps stores steps)
  needed-again [] = refl
  needed-again (s ∷ steps) = by (is_used s.statement stores (needed_steps stores steps)) refl (needed-again steps)
    where
      by : (b : Bool) → is_used s.statement stores (needed_steps stores steps) ≡ b
          → needed_steps stores (map pushed_step (needed_steps stores steps)) ≡ map pushed_step (needed_steps stores steps)
          → needed_steps stores (map pushed_step (cond b (s ∷ needed_steps stores steps) (needed_steps stores steps)))
          ≡ map pushed_step (cond b (s ∷ needed_steps stores steps) (needed_steps stores steps))
      by true u again =
          (λ i. cond (is_used s.statement stores (again i)) (pushed_step s ∷ again i) (again i))
          ∙ ap (λ b. cond b (pushed_step s ∷ map pushed_step (needed_steps stores steps)) (map pushed_step (needed_steps stores steps))) (used-pushed s.statement (needed_steps stores steps) ∙ u)
      by false u again = again

  -- whoever is used by later steps is used by one step more
  used-more : (k : ℕ) (s : StepTree) (steps : List StepTree) → is_used k stores steps ≡ true → is_used k stores (s ∷ steps) ≡ true
  used-more k s steps h = by (is_stored k) (uses k s) (list_any (uses k) steps) h
    where
      by : (a b c : Bool) → (a || c) ≡ true → (a || (b || c)) ≡ true
      by true b c h = refl
      by false true c h = refl
      by false false c h = h

  used-here : (k : ℕ) (s : StepTree) (steps : List StepTree) → uses k s ≡ true → is_used k stores (s ∷ steps) ≡ true
  used-here k s steps h = or_right (is_stored k) (uses k s || list_any (uses k) steps) (or_left (uses k s) (list_any (uses k) steps) h)

  module _ (files : List File) where
    abbrev value_in : Results → Source → RelationState
    value_in results o = found no_relation (relations_of files) results o

    -- two lists of results have the same for these steps
    abbrev Agree : Results → Results → List StepTree → Type 0
    Agree all few steps = (k : ℕ) → is_used k stores steps ≡ true → value_in all (source.Result k) ≡ value_in few (source.Result k)

    source-agrees : (all few : Results) (sources : List Source)
        → ((k : ℕ) → list_any (is_result k) sources ≡ true → value_in all (source.Result k) ≡ value_in few (source.Result k))
        → Each (λ o. value_in all o ≡ value_in few o) sources
    source-agrees all few [] h = tt
    source-agrees all few (source.File place ∷ sources) h = (refl, source-agrees all few sources (λ k e. h k e))
    source-agrees all few (source.Result n ∷ sources) h =
        (h n (or_left (n == n) (list_any (is_result n) sources) (eq-eqb n n refl)), source-agrees all few sources (λ k e. h k (or_right (n == k) (list_any (is_result k) sources) e)))

    rows_in : Results → Source → Rows
    rows_in results o = (value_in results o).rows

    tables-agree : (all few : Results) (sources : List Source) → Each (λ o. value_in all o ≡ value_in few o) sources
        → map (λ o. (value_in all o).rows) sources ≡ map (λ o. (value_in few o).rows) sources
    tables-agree all few [] h = refl
    tables-agree all few (o ∷ sources) h = λ i. (h.0 i).rows ∷ tables-agree all few sources h.1 i

    term-agrees : (all few : Results) (t : TermTree) → Each (λ o. value_in all o ≡ value_in few o) (sources_of t)
        → term_rows (λ o. (value_in all o).rows) t ≡ term_rows (λ o. (value_in few o).rows) (pushed_term t)
    term-agrees all few (Same o) h = λ i. (h.0 i).rows
    term-agrees all few Empty h = refl
    term-agrees all few (UnionAll o p) h = λ i. union_all (h.0 i).rows (h.1.0 i).rows
    term-agrees all few (Diff o p) h = λ i. difference (h.0 i).rows (h.1.0 i).rows
    term-agrees all few (Distinct o) h = λ i. distinct (h.0 i).rows
    term-agrees all few (Join shape sources) h = ap (listed_of shape) (tables-agree all few sources h) ∙ listed-same shape (map (λ o. (value_in few o).rows) sources)
    term-agrees all few (Group shape sources kinds) h =
        ap (groups kinds) (ap (listed_of shape) (tables-agree all few sources h) ∙ listed-same shape (map (λ o. (value_in few o).rows) sources))

    term-fails : (rule : FaultRule) (number : ℕ) (all few : Results) (t : TermTree) → Each (λ o. value_in all o ≡ value_in few o) (sources_of t)
        → term_fault rule number (λ o. (value_in all o).rows) t ≡ term_fault rule number (λ o. (value_in few o).rows) (pushed_term t)
    term-fails rule number all few (Same o) h = refl
    term-fails rule number all few Empty h = refl
    term-fails rule number all few (UnionAll o p) h =
        λ i. cond (too_many (union_all (h.0 i).rows (h.1.0 i).rows)) (Some (fault.TooManyRows number)) None
    term-fails rule number all few (Diff o p) h = refl
    term-fails rule number all few (Distinct o) h = refl
    term-fails rule number all few (Join shape sources) h =
        ap (shape_fault rule number shape []) (tables-agree all few sources h) ∙ fault-same rule number shape [] (map (λ o. (value_in few o).rows) sources)
    term-fails rule number all few (Group shape sources kinds) h =
        ap (shape_fault rule number shape kinds) (tables-agree all few sources h) ∙ fault-same rule number shape kinds (map (λ o. (value_in few o).rows) sources)

    -- the sources of a needed step
    here-agrees : (all few : Results) (s : StepTree) (later : List StepTree) → Agree all few (s ∷ later) → Each (λ o. value_in all o ≡ value_in few o) (sources_of s.term)
    here-agrees all few s later agree = source-agrees all few (sources_of s.term) (λ k e. agree k (used-here k s later e))

    step-agrees : (all few : Results) (s : StepTree) → Each (λ o. value_in all o ≡ value_in few o) (sources_of s.term) → step_relation files all s ≡ step_relation files few (pushed_step s)
    step-agrees all few s h = λ i. record { schema = s.schema; rows = term-agrees all few s.term h i }

    -- one result more, where the step is needed, and where it isn't
    needed-more : (all few : Results) (s : StepTree) (later : List StepTree) → Agree all few (s ∷ later)
        → Agree ((s.statement, step_relation files all s) ∷ all) ((s.statement, step_relation files few (pushed_step s)) ∷ few) later
    needed-more all few s later agree k used = by (s.statement == k) (step-agrees all few s (here-agrees all few s later agree)) (agree k (used-more k s later used))
      where
        by : (b : Bool) → step_relation files all s ≡ step_relation files few (pushed_step s) → value_in all (source.Result k) ≡ value_in few (source.Result k)
            → unwrap_or (option_map (λ (r : ℕ × RelationState). r.1) (cond b (Some (s.statement, step_relation files all s)) (find (λ (r : ℕ × RelationState). r.0 == k) all))) no_relation
            ≡ unwrap_or (option_map (λ (r : ℕ × RelationState). r.1) (cond b (Some (s.statement, step_relation files few (pushed_step s))) (find (λ (r : ℕ × RelationState). r.0 == k) few))) no_relation
        by true own old = own
        by false own old = old

    unneeded-more : (all few : Results) (s : StepTree) (later : List StepTree) → is_used s.statement stores later ≡ false → Agree all few later
        → Agree ((s.statement, step_relation files all s) ∷ all) few later
    unneeded-more all few s later unused agree k used = by (s.statement == k) refl (agree k used)
      where
        by : (b : Bool) → (s.statement == k) ≡ b → value_in all (source.Result k) ≡ value_in few (source.Result k)
            → unwrap_or (option_map (λ (r : ℕ × RelationState). r.1) (cond b (Some (s.statement, step_relation files all s)) (find (λ (r : ℕ × RelationState). r.0 == k) all))) no_relation
            ≡ value_in few (source.Result k)
        by true e old = let no : true ≡ false = sym used ∙ ap (λ n. is_used n stores later) (sym (eqb-true s.statement k e)) ∙ unused in absurd (cc)
        by false e old = old

    abbrev all_results : Results → List StepTree → Results
    all_results results steps = fold (λ results (s : StepTree). (s.statement, step_relation files results s) ∷ results) results steps

    -- behind all steps the results of what is stored agree
    results-agree : (steps : List StepTree) (all few : Results) → Agree all few (needed_steps stores steps)
        → Agree (all_results all steps) (all_results few (map pushed_step (needed_steps stores steps))) []
    results-agree [] all few agree = agree
    results-agree (s ∷ steps) all few agree =
        by (is_used s.statement stores (needed_steps stores steps)) refl agree
        (λ more. results-agree steps ((s.statement, step_relation files all s) ∷ all) more)
      where
        by : (b : Bool) → is_used s.statement stores (needed_steps stores steps) ≡ b
            → Agree all few (cond b (s ∷ needed_steps stores steps) (needed_steps stores steps))
            → ((more : Results) → Agree ((s.statement, step_relation files all s) ∷ all) more (needed_steps stores steps)
            → Agree (all_results ((s.statement, step_relation files all s) ∷ all) steps) (all_results more (map pushed_step (needed_steps stores steps))) [])
            → Agree (all_results ((s.statement, step_relation files all s) ∷ all) steps)
            (all_results few (map pushed_step (cond b (s ∷ needed_steps stores steps) (needed_steps stores steps)))) []
        by true u agree rest = rest ((s.statement, step_relation files few (pushed_step s)) ∷ few) (needed-more all few s (needed_steps stores steps) agree)
        by false u agree rest = rest few (unneeded-more all few s (needed_steps stores steps) u agree)

    -- the first fault of a needed step
    first-agrees : (rules : ℕ → FaultRule) (steps : List StepTree) (all few : Results) → Agree all few (needed_steps stores steps)
        → first_fault rules files stores few (map pushed_step (needed_steps stores steps)) ≡ first_fault rules files stores all steps
    first-agrees rules [] all few agree = refl
    first-agrees rules (s ∷ steps) all few agree =
        by (is_used s.statement stores (needed_steps stores steps)) refl agree
        (λ more. first-agrees rules steps ((s.statement, step_relation files all s) ∷ all) more)
      where
        by : (b : Bool) → is_used s.statement stores (needed_steps stores steps) ≡ b
            → Agree all few (cond b (s ∷ needed_steps stores steps) (needed_steps stores steps))
            → ((more : Results) → Agree ((s.statement, step_relation files all s) ∷ all) more (needed_steps stores steps)
            → first_fault rules files stores more (map pushed_step (needed_steps stores steps))
            ≡ first_fault rules files stores ((s.statement, step_relation files all s) ∷ all) steps)
            → first_fault rules files stores few (map pushed_step (cond b (s ∷ needed_steps stores steps) (needed_steps stores steps)))
            ≡ cond (is_some (cond b (term_fault (rules s.statement) s.statement (λ o. (value_in all o).rows) s.term) None))
            (cond b (term_fault (rules s.statement) s.statement (λ o. (value_in all o).rows) s.term) None)
            (first_fault rules files stores ((s.statement, step_relation files all s) ∷ all) steps)
        by true u agree later =
            let flag : is_used s.statement stores (needed_steps stores (map pushed_step (needed_steps stores steps))) ≡ true =
            ap (is_used s.statement stores) (needed-again steps) ∙ used-pushed s.statement (needed_steps stores steps) ∙ u in
            let own : cond (is_used s.statement stores (needed_steps stores (map pushed_step (needed_steps stores steps))))
            (term_fault (rules s.statement) s.statement (λ o. (value_in few o).rows) (pushed_term s.term)) None
            ≡ term_fault (rules s.statement) s.statement (λ o. (value_in all o).rows) s.term =
            ap (λ b. cond b (term_fault (rules s.statement) s.statement (λ o. (value_in few o).rows) (pushed_term s.term)) None) flag
            ∙ sym (term-fails (rules s.statement) s.statement all few s.term (here-agrees all few s (needed_steps stores steps) agree)) in
            let rest = later ((s.statement, step_relation files few (pushed_step s)) ∷ few) (needed-more all few s (needed_steps stores steps) agree) in
            λ i. cond (is_some (own i)) (own i) (rest i)
        by false u agree later = later few (unneeded-more all few s (needed_steps stores steps) u agree)

    -- what is stored
    abbrev stored_as : Results → StoreStep → File
    stored_as results t = (t.key, value_in results t.source)

    stores-agree : (all few : Results) (ts : List StoreStep)
        → ((k : ℕ) → list_any (λ (t : StoreStep). is_result k t.source) ts ≡ true → value_in all (source.Result k) ≡ value_in few (source.Result k))
        → map (stored_as all) ts ≡ map (stored_as few) ts
    stores-agree all few [] h = refl
    stores-agree all few (t ∷ ts) h = λ i. (t.key, own t.source (λ k e. h k (or_left (is_result k t.source) (list_any (λ (t : StoreStep). is_result k t.source) ts) e)) i)
        ∷ stores-agree all few ts (λ k e. h k (or_right (is_result k t.source) (list_any (λ (t : StoreStep). is_result k t.source) ts) e)) i
      where
        own : (o : Source) → ((k : ℕ) → is_result k o ≡ true → value_in all (source.Result k) ≡ value_in few (source.Result k)) → value_in all o ≡ value_in few o
        own (source.File place) h = refl
        own (source.Result n) h = h n (eq-eqb n n refl)

pub stored-same : (files : List File) (c : CheckedTree) → stored_by files (rewritten c) ≡ stored_by files c
stored-same files c =
    sym (stores-agree c.stores files (step_relations files c.steps) (step_relations files (map pushed_step (needed_steps c.stores c.steps))) c.stores
    (λ k e. results-agree c.stores files c.steps [] [] (λ k u. refl) k (or_left (list_any (λ (t : StoreStep). is_result k t.source) c.stores) false e)))

pub faults-same : (rules : ℕ → FaultRule) (files : List File) (c : CheckedTree) → checked_fault rules files (rewritten c) ≡ checked_fault rules files c
faults-same rules files c = first-agrees c.stores files rules c.steps [] [] (λ k u. refl)
