-- The fault of a run of the steps is the script's.
use Rattle.std.proofs.Common.{◌≡◌, ◌∙◌, ℕ, suc, ◌+◌, ◌≤◌, Bool, true, false, cond, ◌||◌, List, [], ◌∷◌, map, length, refl, sym, ap, subst, arith, add-one, Option, Some, None}
use Rattle.std.specs.Prelude.{All, if◌then◌else◌, is_some, option_map, option_and_then, sum}
use Rattle.std.specs.Option.{option_map_or}
use Rattle.std.specs.List.{flat_map, list_any}
use Rattle.std.proofs.lemmas.List.{length-map}
use Rattle.std.proofs.lemmas.List.Elements.{All-nil, All-head, All-tail}
use Rattle.rel_base.specs.Each.{each_or_none}
use Rattle.rel_base.specs.Keys.{File}
use Rattle.rel_base.specs.Relations.{RelationState}
use Rattle.rel_base.specs.declared.names.Key.{Key}
use Rattle.rel_base.specs.declared.faults.RunFault.{RunFault}
use Rattle.rel_base.specs.declared.faults.RunFault.TheVariants as fault
use Rattle.rel_base.specs.declared.relations.Column.{Column}
use Rattle.rel_base.specs.declared.values.ColType.{ColType}
use Rattle.myrial_ast.specs.Trees.{Name, Tree, EmitTree, RelTree, StatementTree}
use Rattle.myrial_ast.specs.Trees as tree
use Rattle.myrial_ast.specs.CandidateFaults.{FaultRule, too_many, overflows_on, comprehension_fault}
use Rattle.myrial_ast.specs.Classes.{equalities}
use Rattle.myrial_ast.specs.Combinations.{Rows, Comprehension}
use Rattle.myrial_ast.specs.Groups.{has_aggregate}
use Rattle.myrial_ast.specs.Operands.{operands_of}
use Rattle.myrial_ast.specs.Scalars.{Scalar}
use Rattle.myrial_scopes.specs.Scopes.{same_name, scope_of}
use Rattle.myrial_scopes.specs.Emits.{Emit, Resolved, conjuncts_of, emits_of, emitting, resolved}
use Rattle.myrial_meaning.specs.Environments.{nothing_yet, with_key, with_name}
use Rattle.myrial_meaning.specs.Faults.{fault_from, relation_fault, widths_of}
use Rattle.myrial_meaning.specs.Fetches.{loads_of}
use Rattle.myrial_meaning.specs.Meaning.{ItemRelation, RelationEnvironment, items_of, tables_of}
use Rattle.myrial_meaning.specs.Needed.{is_live}
use Rattle.myrial_meaning.proofs.ComprehensionLemmas.{no_sums}
use Rattle.algebra.specs.declared.terms.Source.{Source}
use Rattle.algebra.specs.declared.terms.StoreStep.{StoreStep}
use Rattle.algebra.specs.Trees.{TermTree, Same, UnionAll, Diff, Distinct, Join, Group, StepTree, CheckedTree}
use Rattle.algebra.specs.Meanings.{first_fault, has_long_prefix, is_used, needed_steps, shape_fault, step_relation, term_fault}
use Rattle.algebra.specs.Shapes.{candidates_of, joined_tables, listed_of, shape_of}
use Rattle.algebra.specs.ShapeLaws.{InRange, widths_in}
use Rattle.algebra.proofs.PrefixLemmas.{shape_faults_the_same}
use Rattle.myrial_types.specs.Checking.{store_of, with_result}
use Rattle.myrial_types.specs.Laws.{StepsHaveTheFault}
use Rattle.myrial_types.specs.Resolving.{Meant, MeantItem, Names, Typed, comprehension_term, item_meant, join_term, kinds_of_items, meant, of_one, of_two, schemas_of, sources_of, term_of}
use Rattle.myrial_types.proofs.FollowLemmas.{Follows, at_end, a_nothing, an_assignment, a_store, later-steps, typed-follows}
use Rattle.myrial_types.proofs.LoadLemmas.{AllFit}
use Rattle.myrial_types.proofs.RangeLemmas.{conjuncts-range}
use Rattle.myrial_types.proofs.UsedLemmas.{AllBefore, assigned-before, later-before, needed-without, newly-seen, not-result, stored-before, used-live, used-without}
use Rattle.myrial_types.proofs.ValueLemmas.{Agrees, IfAny, IsBefore, IsEarlier, Results, assigned-agrees, assigned-means, items-mean, items-same, meant-All, named, none-agree, relation_in, stored-agrees, table_of, tables-same, term-means, typed_table, value_of, weaker, with_nothing}

-- ---- joins

widths-given : (files : List File) (results : Results) (given : List MeantItem) → widths_of (map (relation_in files results) given) ≡ widths_in (kinds_of_items given)
widths-given files results [] = refl
widths-given files results (g ∷ given) =
    ap (λ n. n ∷ widths_of (map (relation_in files results) given)) (sym (length-map g.meant.schema (λ (c : Column). c.kind)))
    ∙ ap (λ ns. length (map (λ (c : Column). c.kind) g.meant.schema) ∷ ns) (widths-given files results given)

-- where nothing is grouped, no sum can leave 64 bits
ungrouped-fault : (rule : FaultRule) (number : ℕ) (kinds : List (List ColType)) (c : Comprehension) (given : List Rows) → has_aggregate c.aggregates ≡ false
    → shape_fault rule number (shape_of kinds c) c.aggregates given ≡ shape_fault rule number (shape_of kinds c) [] given
ungrouped-fault rule number kinds c given e =
    let shape = shape_of kinds c in
    let listed = listed_of shape given in
    ap ends (no_sums c.aggregates listed e) ∙ ap ends (sym (no_sums [] listed refl))
  where
    ends : Bool → Option RunFault
    ends fits =
        if too_many (candidates_of (shape_of kinds c) given)
        || has_long_prefix rule.prefixes (shape_of kinds c) (joined_tables rule.reduce (shape_of kinds c) given) then Some (fault.TooManyRows number)
        else if list_any (overflows_on (shape_of kinds c).arith (shape_of kinds c).emits) (candidates_of (shape_of kinds c) given) then Some (fault.Overflow number)
        else if fits then None
        else Some (fault.AggregateOverflow number)

resolved-range : (given : List MeantItem) (condition : Option Tree) (emits : List EmitTree)
    → IfAny (λ (b : Resolved). InRange (sum (widths_in (kinds_of_items given))) (equalities b.comprehension.conjuncts)) (resolved (scope_of (schemas_of given)) condition emits)
resolved-range given condition emits =
    by (conjuncts_of (scope_of (schemas_of given)) condition) (conjuncts-range given condition) (emits_of (scope_of (schemas_of given)) emits)
  where
    by : (a : Option (List Scalar)) → ((cs : List Scalar) → a ≡ Some cs → InRange (sum (widths_in (kinds_of_items given))) (equalities cs)) → (b : Option (List Emit))
        → IfAny (λ (b : Resolved). InRange (sum (widths_in (kinds_of_items given))) (equalities b.comprehension.conjuncts)) (option_and_then (λ joined. option_map (emitting joined) b) a)
    by None h b = tt
    by (Some cs) h None = tt
    by (Some cs) h (Some es) = h cs refl

module _ (rule : FaultRule) (files : List File) (results : Results) (env : RelationEnvironment) (names : Names)
    (assigned : env.assigned ≡ map (named files results) names.assigned) (stored : env.stored ≡ map (named files results) names.stored) (number : ℕ) where
  abbrev rows_of : Source → Rows
  rows_of o = (value_of files results o).rows

  -- a join has the fault of its comprehension
  join-fault : (given : List MeantItem) (b : Resolved) → InRange (sum (widths_in (kinds_of_items given))) (equalities b.comprehension.conjuncts)
      → comprehension_fault rule number (widths_of (map (relation_in files results) given)) b.comprehension (tables_of (map (relation_in files results) given))
      ≡ term_fault rule number (λ o. (value_of files results o).rows) (join_term (kinds_of_items given) (sources_of given) b.comprehension)
  join-fault given b range =
      ap (λ ws. comprehension_fault rule number ws b.comprehension (tables_of (map (relation_in files results) given))) (widths-given files results given)
      ∙ ap (comprehension_fault rule number (widths_in (kinds_of_items given)) b.comprehension) (tables-same files results env names assigned stored given)
      ∙ sym (shape_faults_the_same (kinds_of_items given) b.comprehension range rule number (map (λ o. (value_of files results o).rows) (sources_of given)))
      ∙ by (has_aggregate b.comprehension.aggregates) refl
    where
      by : (t : Bool) → has_aggregate b.comprehension.aggregates ≡ t
          → shape_fault rule number (shape_of (kinds_of_items given) b.comprehension) b.comprehension.aggregates (map (λ o. (value_of files results o).rows) (sources_of given))
          ≡ term_fault rule number (λ o. (value_of files results o).rows) (cond t (Group (shape_of (kinds_of_items given) b.comprehension) (sources_of given) b.comprehension.aggregates) (Join (shape_of (kinds_of_items given) b.comprehension) (sources_of given)))
      by true e = refl
      by false e = ungrouped-fault rule number (kinds_of_items given) b.comprehension (map (λ o. (value_of files results o).rows) (sources_of given)) e

  one-fault : (f : Source → TermTree) → ((o : Source) → term_fault rule number (λ o. (value_of files results o).rows) (f o) ≡ None) → (m : Option Meant)
      → IfAny (λ (t : Typed). None ≡ term_fault rule number (λ o. (value_of files results o).rows) t.term) (of_one f m)
  one-fault f h None = tt
  one-fault f h (Some m) = sym (h m.source)

  diff-fault : (m n : Option Meant) → IfAny (λ (t : Typed). None ≡ term_fault rule number (λ o. (value_of files results o).rows) t.term) (of_two Diff m n)
  diff-fault None n = tt
  diff-fault (Some m) None = tt
  diff-fault (Some m) (Some n) = refl

  union-fault : (m n : Option Meant)
      → IfAny (λ (t : Typed). option_and_then (λ (u : RelationState). if too_many u.rows then Some (fault.TooManyRows number) else None) (option_map (typed_table files results) (of_two UnionAll m n))
      ≡ term_fault rule number (λ o. (value_of files results o).rows) t.term) (of_two UnionAll m n)
  union-fault None n = tt
  union-fault (Some m) None = tt
  union-fault (Some m) (Some n) = refl

  -- a term has the fault of its relation expression
  term-fault : (r : RelTree) → AllFit files (flat_map loads_of (operands_of r))
      → IfAny (λ (t : Typed). relation_fault rule number files env r ≡ term_fault rule number (λ o. (value_of files results o).rows) t.term) (term_of files names r)
  term-fault (tree.Copy o) h = one-fault Same (λ s. refl) (meant files names o)
  term-fault (tree.Empty schema) h = refl
  term-fault (tree.Distinct o) h = one-fault Distinct (λ s. refl) (meant files names o)
  term-fault (tree.UnionAll o p) h =
      subst (λ (x : Option RelationState). IfAny (λ (t : Typed). option_and_then (λ (u : RelationState). if too_many u.rows then Some (fault.TooManyRows number) else None) x
      ≡ term_fault rule number (λ o. (value_of files results o).rows) t.term) (term_of files names (tree.UnionAll o p)))
      (sym (term-means files results env names assigned stored (tree.UnionAll o p) h)) (union-fault (meant files names o) (meant files names p))
  term-fault (tree.Diff o p) h = diff-fault (meant files names o) (meant files names p)
  term-fault (tree.From items condition emits) h =
      subst (λ (x : Option (List ItemRelation)). IfAny (λ (t : Typed). option_and_then (λ sources. option_and_then (λ (b : Resolved). comprehension_fault rule number (widths_of sources) b.comprehension (tables_of sources)) (resolved (scope_of (items_of sources)) condition emits)) x
      ≡ term_fault rule number (λ o. (value_of files results o).rows) t.term) (term_of files names (tree.From items condition emits)))
      (sym (items-mean files results env names assigned stored items h)) (by (each_or_none (item_meant files names) items))
    where
      found : (given : List MeantItem) (o : Option Resolved) → IfAny (λ (b : Resolved). InRange (sum (widths_in (kinds_of_items given))) (equalities b.comprehension.conjuncts)) o
          → ((b : Resolved) → InRange (sum (widths_in (kinds_of_items given))) (equalities b.comprehension.conjuncts)
          → comprehension_fault rule number (widths_of (map (relation_in files results) given)) b.comprehension (tables_of (map (relation_in files results) given))
          ≡ term_fault rule number (λ o. (value_of files results o).rows) (join_term (kinds_of_items given) (sources_of given) b.comprehension))
          → IfAny (λ (t : Typed). option_and_then (λ (b : Resolved). comprehension_fault rule number (widths_of (map (relation_in files results) given)) b.comprehension (tables_of (map (relation_in files results) given))) o
          ≡ term_fault rule number (λ o. (value_of files results o).rows) t.term)
          (option_map (λ (b : Resolved). let t : Typed = record { term = join_term (kinds_of_items given) (sources_of given) b.comprehension; schema = b.schema } in t) o)
      found given None h same = tt
      found given (Some b) h same = same b h

      by : (o : Option (List MeantItem))
          → IfAny (λ (t : Typed). option_and_then (λ sources. option_and_then (λ (b : Resolved). comprehension_fault rule number (widths_of sources) b.comprehension (tables_of sources)) (resolved (scope_of (items_of sources)) condition emits)) (option_map (map (relation_in files results)) o)
          ≡ term_fault rule number (λ o. (value_of files results o).rows) t.term)
          (option_and_then (λ given. comprehension_term given condition emits) o)
      by None = tt
      by (Some given) =
          subst (λ items. IfAny (λ (t : Typed). option_and_then (λ (b : Resolved). comprehension_fault rule number (widths_of (map (relation_in files results) given)) b.comprehension (tables_of (map (relation_in files results) given))) (resolved (scope_of items) condition emits)
          ≡ term_fault rule number (λ o. (value_of files results o).rows) t.term) (comprehension_term given condition emits))
          (sym (items-same files results env names assigned stored given))
          (found given (resolved (scope_of (schemas_of given)) condition emits) (resolved-range given condition emits) (join-fault given))

-- ---- scripts

-- a store of something earlier changes no fault of later steps
fault-without : (rules : ℕ → FaultRule) (files : List File) (number : ℕ) (s : StoreStep) (stores : List StoreStep) → IsBefore number s.source → (steps : List StepTree)
    → All (λ (s : StepTree). number ≤ s.statement) steps → (results : Results) → first_fault rules files (s ∷ stores) results steps ≡ first_fault rules files stores results steps
fault-without rules files number s stores h [] later results = refl
fault-without rules files number s stores h (t ∷ steps) later results =
    let own = term_fault (rules t.statement) t.statement (λ o. (value_of files results o).rows) t.term in
    let behind = All-tail (λ (s : StepTree). number ≤ s.statement) t steps later in
    let flag : is_used t.statement (s ∷ stores) (needed_steps (s ∷ stores) steps) ≡ is_used t.statement stores (needed_steps stores steps) =
    ap (is_used t.statement (s ∷ stores)) (needed-without number s stores h steps behind)
    ∙ used-without t.statement s stores (needed_steps stores steps) (not-result number t.statement s.source h (All-head (λ (s : StepTree). number ≤ s.statement) t steps later)) in
    ap (λ b. cond (is_some (cond b own None)) (cond b own None) (first_fault rules files (s ∷ stores) ((t.statement, step_relation files results t) ∷ results) steps)) flag
    ∙ ap (λ rest. cond (is_some (cond (is_used t.statement stores (needed_steps stores steps)) own None)) (cond (is_used t.statement stores (needed_steps stores steps)) own None) rest)
    (fault-without rules files number s stores h steps behind ((t.statement, step_relation files results t) ∷ results))

faults : (rules : ℕ → FaultRule) (files : List File) (number : ℕ) (names : Names) (script : List StatementTree) (c : CheckedTree) → Follows files number names script c
    → (results : Results) (env : RelationEnvironment) → Agrees files number results env names → AllBefore number names
    → first_fault rules files c.stores results c.steps ≡ fault_from rules files number env script
faults rules files _ _ _ _ (at_end number names) results env a before = refl
faults rules files _ _ _ _ (a_nothing number names rest c f) results env a before =
    faults rules files (number + 1) names rest c f results env (with_nothing files number results env names a) (later-before files names number before)
    ∙ ap (λ n. fault_from rules files n env rest) (add-one number)
faults rules files _ _ _ _ (an_assignment number names name r rest t c typed fit e f) results env a before =
    let made : RelationState = typed_table files results t in
    let own = term_fault (rules number) number (λ o. (value_of files results o).rows) t.term in
    let next = assigned-before files names number before name t in
    let used = used-live files (number + 1) (with_result number names name t) rest c f number true name (omega arith) next (newly-seen files names number name t before) in
    let later = faults rules files (number + 1) (with_result number names name t) rest c f ((number, made) ∷ results) (with_name env name made) (assigned-agrees files number results env names a name t) next in
    let means = term-means files results env names a.assigned a.stored r fit ∙ ap (option_map (typed_table files results)) e in
    let same : relation_fault (rules number) number files env r ≡ own =
    subst (IfAny (λ (t : Typed). relation_fault (rules number) number files env r ≡ term_fault (rules number) number (λ o. (value_of files results o).rows) t.term)) e
    (term-fault (rules number) files results env names a.assigned a.stored number r fit) in
    ap (λ b. cond (is_some (cond b own None)) (cond b own None) (first_fault rules files c.stores ((number, made) ∷ results) c.steps)) used
    ∙ ap (λ x. cond (is_some (cond (is_live name rest) own None)) (cond (is_live name rest) own None) x) later
    ∙ ap (λ x. cond (is_some (cond (is_live name rest) x None)) (cond (is_live name rest) x None) (fault_from rules files (number + 1) (with_name env name made) rest)) (sym same)
    ∙ ap (λ n. cond (is_some (cond (is_live name rest) (relation_fault (rules number) number files env r) None)) (cond (is_live name rest) (relation_fault (rules number) number files env r) None) (fault_from rules files n (with_name env name made) rest)) (add-one number)
    ∙ ap (λ x. cond (is_some (cond (is_live name rest) (relation_fault (rules number) number files env r) None)) (cond (is_live name rest) (relation_fault (rules number) number files env r) None) (fault_from rules files (suc number) (option_map_or (with_name env name) x env) rest)) (sym means)
faults rules files _ _ _ _ (a_store number names name key rest m c e f) results env a before =
    let early : IfAny (IsEarlier files number results) (Some m) =
    subst (IfAny (IsEarlier files number results)) e (meant-All (IsEarlier files number results) (λ n. same_name n name) names.assigned a.earlier) in
    let means = assigned-means files results env names a.assigned a.stored name ∙ ap (option_map (table_of files results)) e in
    fault-without rules files (number + 1) (store_of number key m) c.stores (weaker number m.source early.0) c.steps
    (later-steps files (number + 1) (with_key names key m) rest c f) results
    ∙ faults rules files (number + 1) (with_key names key m) rest c f results (with_key env key (table_of files results m))
    (stored-agrees files number results env names a key m early) (stored-before files names number before key m early.0)
    ∙ ap (λ n. fault_from rules files n (with_key env key (table_of files results m)) rest) (add-one number)
    ∙ ap (λ x. fault_from rules files (suc number) (option_map_or (with_key env key) x env) rest) (sym means)

pub steps_have_the_fault : StepsHaveTheFault
steps_have_the_fault rules files script c forms typed =
    faults rules files 1 nothing_yet script c (typed-follows files script c forms typed) [] nothing_yet (none-agree files)
    (record { assigned = All-nil (λ (p : Name × Meant). IsBefore 1 p.1.source); stored = All-nil (λ (p : Key × Meant). IsBefore 1 p.1.source) })
