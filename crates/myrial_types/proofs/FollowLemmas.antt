-- A typed script over its files, statement by statement.
use Rattle.std.proofs.Common.{◌≡◌, ◌∙◌, ℕ, ◌+◌, ◌≤◌, Bool, true, false, cond, List, [], ◌∷◌, ◌++◌, refl, sym, ap, subst, arith, Option, Some, None}
use Rattle.std.specs.Prelude.{All, is_none, is_some, option_map, Result, Ok, Err}
use Rattle.std.specs.Option.{option_map_or, option_or, option_to_list}
use Rattle.std.specs.List.{flat_map, list_any}
use Rattle.std.proofs.lemmas.List.{append_assoc, append-nil}
use Rattle.std.proofs.lemmas.List.Elements.{All-nil, All-cons, All-weaker}
use Rattle.rel_base.specs.Keys.{File}
use Rattle.rel_base.specs.declared.names.Key.{Key}
use Rattle.myrial_ast.specs.Operands.{operands_of}
use Rattle.myrial_ast.specs.Trees.{Name, RelTree, StatementTree}
use Rattle.myrial_ast.specs.Trees as tree
use Rattle.myrial_meaning.specs.Environments.{nothing_yet, assigned_to, with_key}
use Rattle.myrial_meaning.specs.Fetches.{Load, loads_in}
use Rattle.algebra.specs.Trees.{StepTree, CheckedTree}
use Rattle.myrial_types.specs.declared.faults.TypeFault.{TypeFault}
use Rattle.myrial_types.specs.declared.faults.TypeKind.{TypeKind}
use Rattle.myrial_types.specs.declared.faults.TypeKind.TheVariants as fault
use Rattle.myrial_types.specs.Fetching.{has_conflict, have_forms}
use Rattle.myrial_types.specs.Resolving.{Meant, Names, Typed, term_of}
use Rattle.myrial_types.specs.Kinds.{first_kind, is_unknown, limit_kind, relation_kind, typing_kind}
use Rattle.myrial_types.specs.Checking.{before, checked_from, checked_of, step_of, store_of, with_result}
use Rattle.myrial_types.proofs.LoadLemmas.{AllFit, Forms, fit-append, loads-fit}
use Rattle.myrial_types.proofs.ResolvedLemmas.{typed_statements_resolve}

-- Statements that are typed and fit their files, with their names resolved: the first has this number, and names and keys stand
-- for these before it.
pub data Follows (files : List File) : ℕ → Names → List StatementTree → CheckedTree → Type 0 where
  at_end : (number : ℕ) (names : Names) → Follows files number names [] (record { steps = []; stores = [] })
  a_nothing : (number : ℕ) (names : Names) (rest : List StatementTree) (c : CheckedTree)
      → Follows files (number + 1) names rest c → Follows files number names (tree.Nothing ∷ rest) c
  an_assignment : (number : ℕ) (names : Names) (name : Name) (r : RelTree) (rest : List StatementTree) (t : Typed) (c : CheckedTree)
      → typing_kind files names r ≡ None → AllFit files (loads_in (tree.Assign name r)) → term_of files names r ≡ Some t
      → Follows files (number + 1) (with_result number names name t) rest c
      → Follows files number names (tree.Assign name r ∷ rest) (record { steps = step_of number t ∷ c.steps; stores = c.stores })
  a_store : (number : ℕ) (names : Names) (name : Name) (key : Key) (rest : List StatementTree) (m : Meant) (c : CheckedTree)
      → assigned_to names name ≡ Some m → Follows files (number + 1) (with_key names key m) rest c
      → Follows files number names (tree.Store name key ∷ rest) (record { steps = c.steps; stores = store_of number key m ∷ c.stores })

-- the steps have the numbers of their statements, and so none is below the first
pub later-steps : (files : List File) (number : ℕ) (names : Names) (script : List StatementTree) (c : CheckedTree) → Follows files number names script c
    → All (λ (s : StepTree). number ≤ s.statement) c.steps
later-steps files _ _ _ _ (at_end number names) = All-nil (λ (s : StepTree). number ≤ s.statement)
later-steps files _ _ _ _ (a_nothing number names rest c f) =
    All-weaker (λ (s : StepTree). number + 1 ≤ s.statement) (λ (s : StepTree). number ≤ s.statement) (λ s l. omega (arith, l)) c.steps
    (later-steps files (number + 1) names rest c f)
later-steps files _ _ _ _ (an_assignment number names name r rest t c typed fit e f) =
    All-cons (λ (s : StepTree). number ≤ s.statement) (step_of number t) c.steps (omega arith)
    (All-weaker (λ (s : StepTree). number + 1 ≤ s.statement) (λ (s : StepTree). number ≤ s.statement) (λ s l. omega (arith, l)) c.steps
    (later-steps files (number + 1) (with_result number names name t) rest c f))
later-steps files _ _ _ _ (a_store number names name key rest m c e f) =
    All-weaker (λ (s : StepTree). number + 1 ≤ s.statement) (λ (s : StepTree). number ≤ s.statement) (λ s l. omega (arith, l)) c.steps
    (later-steps files (number + 1) (with_key names key m) rest c f)

-- ---- what is typed follows

or-none : {X : Type 0} (o p : Option X) → option_or o p ≡ None → (o ≡ None) × (p ≡ None)
or-none None p e = (refl, e)
or-none (Some x) p e = cc

-- a relation expression without a kind has none of its own, and is past no limit
pub typed-kinds : (files : List File) (names : Names) (r : RelTree) → typing_kind files names r ≡ None
    → (relation_kind files names r ≡ None) × (limit_kind (term_of files names r) ≡ None)
typed-kinds files names r e = by (list_any (is_unknown files names) (operands_of r)) e
  where
    by : (t : Bool) → cond t (Some fault.UnknownRelation) (option_or (relation_kind files names r) (limit_kind (term_of files names r))) ≡ None
        → (relation_kind files names r ≡ None) × (limit_kind (term_of files names r) ≡ None)
    by true e = cc
    by false e = or-none (relation_kind files names r) (limit_kind (term_of files names r)) e

pub no-mismatch : (b : Bool) → cond b (Some fault.TypeMismatch) None ≡ None → b ≡ false
no-mismatch true e = cc
no-mismatch false e = refl

-- a statement without a kind has no conflict
no-conflict : (b : Bool) → cond b (Some fault.LoadConflict) None ≡ None → b ≡ false
no-conflict true e = cc
no-conflict false e = refl

module _ (files : List File) (all : List Load) (forms : Forms files all) where
  follows : (script : List StatementTree) (number : ℕ) (names : Names) (earlier : List Load) (c : CheckedTree)
      → all ≡ earlier ++ flat_map loads_in script → AllFit files earlier → checked_from files number names earlier script ≡ Ok c
      → Follows files number names script c
  follows [] number names earlier c whole fit e = let same : record { steps = []; stores = [] } ≡ c = cc in subst (Follows files number names []) same (at_end number names)
  follows (tree.Nothing ∷ rest) number names earlier c whole fit e =
      by (checked_from files (number + 1) names (earlier ++ []) rest) refl
      (λ d. follows rest (number + 1) names (earlier ++ []) d (whole ∙ ap (λ front. front ++ flat_map loads_in rest) (sym (append-nil earlier))) (fit-append files earlier [] fit tt)) e
    where
      by : (o : Result CheckedTree TypeFault) → checked_from files (number + 1) names (earlier ++ []) rest ≡ o
          → ((d : CheckedTree) → checked_from files (number + 1) names (earlier ++ []) rest ≡ Ok d → Follows files (number + 1) names rest d)
          → before number None (λ c. c) o ≡ Ok c → Follows files number names (tree.Nothing ∷ rest) c
      by (Err why) is later e = cc
      by (Ok d) is later e = let same : d ≡ c = cc in subst (Follows files number names (tree.Nothing ∷ rest)) same (a_nothing number names rest d (later d is))
  follows (tree.Assign name r ∷ rest) number names earlier c whole fit e =
      by (first_kind files names earlier (tree.Assign name r)) refl (term_of files names r) refl
      (typed_statements_resolve.assigned files names earlier name r)
      (λ t d own. follows rest (number + 1) (with_result number names name t) (earlier ++ loads_in (tree.Assign name r)) d
      (whole ∙ sym (append_assoc earlier (loads_in (tree.Assign name r)) (flat_map loads_in rest)))
      (fit-append files earlier (loads_in (tree.Assign name r)) fit own)) e
    where
      own-fit : has_conflict earlier (loads_in (tree.Assign name r)) ≡ false → AllFit files (loads_in (tree.Assign name r))
      own-fit none = loads-fit files all forms (loads_in (tree.Assign name r)) earlier (flat_map loads_in rest) whole fit none

      put : (t : Typed) → typing_kind files names r ≡ None → AllFit files (loads_in (tree.Assign name r)) → term_of files names r ≡ Some t
          → (o : Result CheckedTree TypeFault)
          → ((d : CheckedTree) → o ≡ Ok d → Follows files (number + 1) (with_result number names name t) rest d)
          → before number None (λ d. record { steps = step_of number t ∷ d.steps; stores = d.stores }) o ≡ Ok c
          → Follows files number names (tree.Assign name r ∷ rest) c
      put t typed own te (Err why) later e = cc
      put t typed own te (Ok d) later e =
          let with_step : CheckedTree = record { steps = step_of number t ∷ d.steps; stores = d.stores } in
          let same : with_step ≡ c = cc in
          subst (Follows files number names (tree.Assign name r ∷ rest)) same (an_assignment number names name r rest t d typed own te (later d refl))

      by : (k : Option TypeKind) → first_kind files names earlier (tree.Assign name r) ≡ k → (o : Option Typed) → term_of files names r ≡ o
          → (first_kind files names earlier (tree.Assign name r) ≡ None → is_some (term_of files names r) ≡ true)
          → ((t : Typed) (d : CheckedTree) → AllFit files (loads_in (tree.Assign name r))
          → checked_from files (number + 1) (with_result number names name t) (earlier ++ loads_in (tree.Assign name r)) rest ≡ Ok d
          → Follows files (number + 1) (with_result number names name t) rest d)
          → before number k (λ d. record { steps = option_to_list (option_map (step_of number) o) ++ d.steps; stores = d.stores })
          (checked_from files (number + 1) (option_map_or (with_result number names name) o names) (earlier ++ loads_in (tree.Assign name r)) rest) ≡ Ok c
          → Follows files number names (tree.Assign name r ∷ rest) c
      by (Some k) ke o te some later e = cc
      by None ke None te some later e = let bad : false ≡ true = sym (ap is_some te) ∙ some ke in cc
      by None ke (Some t) te some later e =
          let apart = or-none (typing_kind files names r) (cond (has_conflict earlier (loads_in (tree.Assign name r))) (Some fault.LoadConflict) None) ke in
          let own = own-fit (no-conflict (has_conflict earlier (loads_in (tree.Assign name r))) apart.1) in
          put t apart.0 own te
          (checked_from files (number + 1) (with_result number names name t) (earlier ++ loads_in (tree.Assign name r)) rest) (λ d. later t d own) e
  follows (tree.Store name key ∷ rest) number names earlier c whole fit e =
      by (assigned_to names name) refl
      (λ m d. follows rest (number + 1) (with_key names key m) (earlier ++ []) d
      (whole ∙ ap (λ front. front ++ flat_map loads_in rest) (sym (append-nil earlier))) (fit-append files earlier [] fit tt)) e
    where
      put : (m : Meant) → assigned_to names name ≡ Some m → (o : Result CheckedTree TypeFault)
          → ((d : CheckedTree) → o ≡ Ok d → Follows files (number + 1) (with_key names key m) rest d)
          → before number None (λ d. record { steps = d.steps; stores = store_of number key m ∷ d.stores }) o ≡ Ok c
          → Follows files number names (tree.Store name key ∷ rest) c
      put m me (Err why) later e = cc
      put m me (Ok d) later e =
          let with_store : CheckedTree = record { steps = d.steps; stores = store_of number key m ∷ d.stores } in
          let same : with_store ≡ c = cc in
          subst (Follows files number names (tree.Store name key ∷ rest)) same (a_store number names name key rest m d me (later d refl))

      by : (o : Option Meant) → assigned_to names name ≡ o
          → ((m : Meant) (d : CheckedTree) → checked_from files (number + 1) (with_key names key m) (earlier ++ []) rest ≡ Ok d
          → Follows files (number + 1) (with_key names key m) rest d)
          → before number (cond (is_none o) (Some fault.UnknownRelation) None)
          (λ d. record { steps = d.steps; stores = option_to_list (option_map (store_of number key) o) ++ d.stores })
          (checked_from files (number + 1) (option_map_or (with_key names key) o names) (earlier ++ []) rest) ≡ Ok c
          → Follows files number names (tree.Store name key ∷ rest) c
      by None oe later e = cc
      by (Some m) oe later e = put m oe (checked_from files (number + 1) (with_key names key m) (earlier ++ []) rest) (later m) e

-- the statements of a typed script whose loaded files have their columns
pub typed-follows : (files : List File) (script : List StatementTree) (c : CheckedTree) → have_forms files script ≡ true → checked_of files script ≡ Ok c
    → Follows files 1 nothing_yet script c
typed-follows files script c forms e = follows files (flat_map loads_in script) forms script 1 nothing_yet [] c refl tt e
