-- The steps of a script mean what the script means.
use Rattle.std.proofs.Common.{◌≡◌, ◌∙◌, ℕ, ◌+◌, ◌≤◌, fold, List, [], ◌∷◌, ◌++◌, map, reverse, refl, sym, ap, subst, arith, Some}
use Rattle.std.specs.Prelude.{All, option_map}
use Rattle.std.specs.Option.{option_map_or}
use Rattle.std.proofs.lemmas.List.{append_assoc, append-nil, reverse-append, reverse-reverse}
use Rattle.std.proofs.lemmas.List.Elements.{All-head, All-tail}
use Rattle.rel_base.specs.Keys.{File}
use Rattle.rel_base.specs.Relations.{RelationState}
use Rattle.rel_base.specs.declared.names.Key.{Key}
use Rattle.myrial_ast.specs.Trees.{Name, StatementTree}
use Rattle.myrial_ast.specs.Trees as tree
use Rattle.myrial_scopes.specs.Scopes.{same_name}
use Rattle.myrial_meaning.specs.Environments.{nothing_yet, assigned_to, with_name, with_key}
use Rattle.myrial_meaning.specs.Meaning.{RelationEnvironment, after}
use Rattle.algebra.specs.declared.terms.Source.{Source}
use Rattle.algebra.specs.declared.terms.Source.TheVariants as source
use Rattle.algebra.specs.declared.terms.StoreStep.{StoreStep}
use Rattle.algebra.specs.Trees.{StepTree, CheckedTree}
use Rattle.algebra.specs.Meanings.{step_relation}
use Rattle.myrial_types.specs.Resolving.{Meant, Names}
use Rattle.myrial_types.specs.Checking.{store_of, with_result}
use Rattle.myrial_types.specs.Laws.{StepsMeanTheScript}
use Rattle.myrial_types.proofs.ValueLemmas.{Results, value_of, table_of, typed_table, IsBefore, IsEarlier, Agrees, meant-All, IfAny, assigned-means, term-means, with_nothing, unchanged, assigned-agrees, stored-agrees, none-agree}
use Rattle.myrial_types.proofs.FollowLemmas.{Follows, at_end, a_nothing, an_assignment, a_store, later-steps, typed-follows}

-- what the steps come to after these results
abbrev finally : List File → Results → List StepTree → Results
finally files results steps = fold (λ before (s : StepTree). (s.statement, step_relation files before s) ∷ before) results steps

before-later : (number later : ℕ) (o : Source) → number ≤ later → IsBefore number o → IsBefore later o
before-later number later (source.File place) l h = tt
before-later number later (source.Result other) l h = omega (arith, l, h)

-- later steps leave what is earlier as it was
kept : (files : List File) (number : ℕ) (o : Source) → IsBefore number o → (steps : List StepTree) → All (λ (s : StepTree). number ≤ s.statement) steps
    → (results : Results) → value_of files (finally files results steps) o ≡ value_of files results o
kept files number o h [] later results = refl
kept files number o h (s ∷ steps) later results =
    kept files number o h steps (All-tail (λ (s : StepTree). number ≤ s.statement) s steps later) ((s.statement, step_relation files results s) ∷ results)
    ∙ unchanged files s.statement results (step_relation files results s) o (before-later number s.statement o (All-head (λ (s : StepTree). number ≤ s.statement) s steps later) h)

-- what is stored in the end, by the last results
abbrev stores_of : List File → Results → List StoreStep → List File
stores_of files last stores = map (λ (s : StoreStep). (s.key, value_of files last s.source)) stores

-- the rest of a script, with its names resolved, stores what the rest of the script stores
abbrev Means : List File → Results → RelationEnvironment → List StatementTree → CheckedTree → Type 0
Means files results env script c =
    (fold (after files) env script).stored ≡ reverse (stores_of files (finally files results c.steps) c.stores) ++ env.stored

module _ (files : List File) (number : ℕ) (results : Results) (env : RelationEnvironment) where
  -- a store before the rest
  store-Means : (name : Name) (key : Key) (rest : List StatementTree) (m : Meant) (c : CheckedTree)
      → assigned_to env name ≡ Some (table_of files results m) → IsEarlier files number results m → All (λ (s : StepTree). number ≤ s.statement) c.steps
      → Means files results (with_key env key (table_of files results m)) rest c
      → Means files results env (tree.Store name key ∷ rest) (record { steps = c.steps; stores = store_of number key m ∷ c.stores })
  store-Means name key rest m c e h later n =
      let last = finally files results c.steps in
      let here : value_of files last m.source ≡ table_of files results m =
      kept files number m.source h.0 c.steps later results ∙ ap (λ columns. record { schema = columns; rows = (value_of files results m.source).rows }) h.1 in
      ap (λ o. (fold (after files) (option_map_or (with_key env key) o env) rest).stored) e
      ∙ n
      ∙ ap (λ (v : RelationState). reverse (stores_of files last c.stores) ++ (key, v) ∷ env.stored) (sym here)
      ∙ sym (append_assoc (reverse (stores_of files last c.stores)) ((key, value_of files last m.source) ∷ []) env.stored)
      ∙ ap (λ xs. xs ++ env.stored) (sym (reverse-append ((key, value_of files last m.source) ∷ []) (stores_of files last c.stores)))

means : (files : List File) (number : ℕ) (names : Names) (script : List StatementTree) (c : CheckedTree) → Follows files number names script c
    → (results : Results) (env : RelationEnvironment) → Agrees files number results env names → Means files results env script c
means files _ _ _ _ (at_end number names) results env a = refl
means files _ _ _ _ (a_nothing number names rest c f) results env a =
    means files (number + 1) names rest c f results env (with_nothing files number results env names a)
means files _ _ _ _ (an_assignment number names name r rest t c typed fit e f) results env a =
    let made : RelationState = typed_table files results t in
    ap (λ o. (fold (after files) (option_map_or (with_name env name) o env) rest).stored)
    (term-means files results env names a.assigned a.stored r fit ∙ ap (option_map (typed_table files results)) e)
    ∙ means files (number + 1) (with_result number names name t) rest c f ((number, made) ∷ results) (with_name env name made)
    (assigned-agrees files number results env names a name t)
means files _ _ _ _ (a_store number names name key rest m c e f) results env a =
    let early : IfAny (IsEarlier files number results) (Some m) =
    subst (IfAny (IsEarlier files number results)) e (meant-All (IsEarlier files number results) (λ n. same_name n name) names.assigned a.earlier) in
    store-Means files number results env name key rest m c
    (assigned-means files results env names a.assigned a.stored name ∙ ap (option_map (table_of files results)) e) early
    (later-steps files number names (tree.Store name key ∷ rest) (record { steps = c.steps; stores = store_of number key m ∷ c.stores }) (a_store number names name key rest m c e f))
    (means files (number + 1) (with_key names key m) rest c f results (with_key env key (table_of files results m))
    (stored-agrees files number results env names a key m early))

pub steps_mean_the_script : StepsMeanTheScript
steps_mean_the_script files script c forms typed =
    let last = finally files [] c.steps in
    sym (reverse-reverse (stores_of files last c.stores))
    ∙ ap reverse (sym (append-nil (reverse (stores_of files last c.stores))))
    ∙ ap reverse (sym (means files 1 nothing_yet script c (typed-follows files script c forms typed) [] nothing_yet (none-agree files)))
