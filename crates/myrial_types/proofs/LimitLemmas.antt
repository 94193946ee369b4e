-- Where no earlier kind is told, a term is past a limit exactly where one of its numbers is: a typed comprehension has a
-- well-formed shape but for them.
use Rattle.std.proofs.Common.{◌≡◌, ◌∙◌, ℕ, ◌==◌, Bool, true, false, cond, not, List, [], ◌∷◌, length, map, refl, ap, arith, Option, Some, None}
use Rattle.std.specs.Prelude.{filter, is_none, nat_le, nat_lt, option_map, option_and_then, sum, ◌&&◌, ◌||◌}
use Rattle.std.specs.List.{flat_map, list_all, list_any}
use Rattle.std.specs.Option.{option_map_or, option_or}
use Rattle.std.proofs.lemmas.Bool.{and_from, and_parts, or_parts}
use Rattle.std.proofs.lemmas.Bool.Decides.{nat_tests}
use Rattle.std.proofs.lemmas.List.{length-map}
use Rattle.std.proofs.lemmas.List.Folds.{list_all-append}
use Rattle.rel_base.specs.Each.{each_or_none}
use Rattle.rel_base.specs.Keys.{File}
use Rattle.rel_base.specs.Limits.{most_columns, most_items, most_variables}
use Rattle.rel_base.specs.declared.values.ColType.{ColType}
use Rattle.rel_base.specs.declared.values.ColType.TheVariants as kind
use Rattle.myrial_ast.specs.declared.operators.BinOp.TheVariants as op
use Rattle.myrial_ast.specs.Classes.{equalities, variables}
use Rattle.myrial_ast.specs.Combinations.{Comprehension}
use Rattle.myrial_ast.specs.Groups.{has_aggregate}
use Rattle.myrial_ast.specs.Scalars.{Scalar, Lit, At, Not, Neg, Bin, arithmetic_of, conjuncts, is_plain, plain_of}
use Rattle.myrial_ast.specs.Trees.{EmitTree, RelTree, Tree}
use Rattle.myrial_ast.specs.Trees as tree
use Rattle.myrial_scopes.specs.Scopes.{ItemSchema, ScopeColumn, scalar_of, scope_of}
use Rattle.myrial_scopes.specs.Emits.{Emit, Resolved, conjuncts_of, emits_of_item, emitting, resolved}
use Rattle.algebra.specs.declared.terms.Source.{Source}
use Rattle.algebra.specs.ShapeConditions.{are_atoms, are_scalars, are_variables, is_atom, is_kind, is_plain_test, is_shape, is_truth, is_typed, kind_in, kinds_of, where_both}
use Rattle.algebra.specs.ShapeLaws.{widths_in}
use Rattle.algebra.specs.Shapes.{shape_of, widths_of}
use Rattle.algebra.specs.Trees.{AtomTree, TermTree, Same, UnionAll, Diff, Distinct, Join, Group}
use Rattle.myrial_types.specs.declared.faults.TypeKind.TheVariants as fault
use Rattle.myrial_types.specs.Kinds.{comprehension_kind, condition_trees, has_ambiguous_column, has_mismatch, has_misplaced, has_unknown_alias, has_unknown_column, is_term_past_limit, limit_kind, relation_kind, tree_kind, trees_in}
use Rattle.myrial_types.specs.Laws.{LimitIsOfNumbers, has_parts_past_limit, has_number_past_limit, joins_past_limit}
use Rattle.myrial_types.specs.Resolving.{Meant, MeantItem, Names, Typed, comprehension_term, item_meant, join_term, kinds_of_items, meant, of_one, of_two, schemas_of, sources_of, term_of}
use Rattle.myrial_types.proofs.FormedLemmas.{atoms_of, mismatch-none, scope-kinds, typed-emits}
use Rattle.myrial_types.proofs.RangeLemmas.{scope-wide}
use Rattle.myrial_types.proofs.ScalarKindLemmas.{EachTyped, emits-typed, kind-same, kinds_in_scope, some-kinds}
use Rattle.myrial_types.proofs.ValueLemmas.{IfAny}
use Rattle.myrial_types.proofs.VariableLemmas.{equalities-alike, is_column_set, variables-different, variables-typed}

-- ---- conditions

both-kinds : (given wanted : ColType) (a b : Option ColType) → is_kind given (where_both given wanted a b) ≡ true → (is_kind wanted a ≡ true) × (is_kind wanted b ≡ true)
both-kinds given wanted a b e = and_parts (is_kind wanted a) (is_kind wanted b) (by (is_kind wanted a && is_kind wanted b) e)
  where
    by : (t : Bool) → is_kind given (cond t (Some given) None) ≡ true → t ≡ true
    by true e = refl
    by false e = e

one-truth : (kinds : List ColType) (s : Scalar) → is_truth kinds s ≡ true → list_all (is_truth kinds) (s ∷ []) ≡ true
one-truth kinds s e = and_from (is_truth kinds s) true e refl

-- the conjuncts of a truth are truths
conjunct-truths : (kinds : List ColType) (s : Scalar) → is_truth kinds s ≡ true → list_all (is_truth kinds) (conjuncts s) ≡ true
conjunct-truths kinds (Bin op.And l r) e =
    let parts = both-kinds kind.Bool kind.Bool (kind_in kinds l) (kind_in kinds r) e in
    list_all-append (is_truth kinds) (conjuncts l) (conjuncts r)
    ∙ and_from (list_all (is_truth kinds) (conjuncts l)) (list_all (is_truth kinds) (conjuncts r)) (conjunct-truths kinds l parts.0) (conjunct-truths kinds r parts.1)
conjunct-truths kinds (Lit v) e = one-truth kinds (Lit v) e
conjunct-truths kinds (At c) e = one-truth kinds (At c) e
conjunct-truths kinds (Not s) e = one-truth kinds (Not s) e
conjunct-truths kinds (Neg s) e = one-truth kinds (Neg s) e
conjunct-truths kinds (Bin op.Or l r) e = one-truth kinds (Bin op.Or l r) e
conjunct-truths kinds (Bin op.Eq l r) e = one-truth kinds (Bin op.Eq l r) e
conjunct-truths kinds (Bin op.Ne l r) e = one-truth kinds (Bin op.Ne l r) e
conjunct-truths kinds (Bin op.Lt l r) e = one-truth kinds (Bin op.Lt l r) e
conjunct-truths kinds (Bin op.Le l r) e = one-truth kinds (Bin op.Le l r) e
conjunct-truths kinds (Bin op.Gt l r) e = one-truth kinds (Bin op.Gt l r) e
conjunct-truths kinds (Bin op.Ge l r) e = one-truth kinds (Bin op.Ge l r) e
conjunct-truths kinds (Bin op.Add l r) e = one-truth kinds (Bin op.Add l r) e
conjunct-truths kinds (Bin op.Sub l r) e = one-truth kinds (Bin op.Sub l r) e
conjunct-truths kinds (Bin op.Mul l r) e = one-truth kinds (Bin op.Mul l r) e

-- what passes a test still does among those that are kept, and these pass both
kept : (test keep : Scalar → Bool) (es : List Scalar) → list_all test es ≡ true → list_all test (filter keep es) ≡ true
kept test keep [] h = refl
kept test keep (e ∷ es) h = let parts = and_parts (test e) (list_all test es) h in by (keep e) parts.0 (kept test keep es parts.1)
  where
    by : (t : Bool) → test e ≡ true → list_all test (filter keep es) ≡ true → list_all test (cond t (e ∷ filter keep es) (filter keep es)) ≡ true
    by true f rest = and_from (test e) (list_all test (filter keep es)) f rest
    by false f rest = rest

kept-both : (test keep : Scalar → Bool) (es : List Scalar) → list_all test es ≡ true → list_all (λ e. keep e && test e) (filter keep es) ≡ true
kept-both test keep [] h = refl
kept-both test keep (e ∷ es) h = let parts = and_parts (test e) (list_all test es) h in by (keep e) refl parts.0 (kept-both test keep es parts.1)
  where
    by : (t : Bool) → keep e ≡ t → test e ≡ true → list_all (λ e. keep e && test e) (filter keep es) ≡ true
        → list_all (λ e. keep e && test e) (cond t (e ∷ filter keep es) (filter keep es)) ≡ true
    by true f g rest = and_from (keep e && test e) (list_all (λ e. keep e && test e) (filter keep es)) (and_from (keep e) (test e) f g) rest
    by false f g rest = rest

unnot : (b : Bool) → not b ≡ false → b ≡ true
unnot true e = refl
unnot false e = cc

condition-typed : (scope : List ScopeColumn) (condition : Option Tree) → list_any (λ e. not (is_kind kind.Bool (tree_kind scope e))) (condition_trees condition) ≡ false
    → IfAny (λ cs. list_all (is_truth (kinds_in_scope scope)) cs ≡ true) (conjuncts_of scope condition)
condition-typed scope None h = refl
condition-typed scope (Some e) h = by (scalar_of scope e) (kind-same scope e)
  where
    truth : is_kind kind.Bool (tree_kind scope e) ≡ true
    truth = unnot (is_kind kind.Bool (tree_kind scope e)) (or_parts (not (is_kind kind.Bool (tree_kind scope e))) false h).0

    by : (o : Option Scalar) → IfAny (λ s. kind_in (kinds_in_scope scope) s ≡ tree_kind scope e) o
        → IfAny (λ cs. list_all (is_truth (kinds_in_scope scope)) cs ≡ true) (option_map conjuncts o)
    by None k = tt
    by (Some s) k = conjunct-truths (kinds_in_scope scope) s (ap (is_kind kind.Bool) k ∙ truth)

-- a comprehension without a kind has a boolean for its condition
typed-condition : (items : List ItemSchema) (condition : Option Tree) (emits : List EmitTree) → comprehension_kind items condition emits ≡ None
    → list_any (λ e. not (is_kind kind.Bool (tree_kind (scope_of items) e))) (condition_trees condition) ≡ false
typed-condition items condition emits none =
    (or_parts (list_any (λ e. is_none (tree_kind (scope_of items) e)) (trees_in condition emits))
    (list_any (λ e. not (is_kind kind.Bool (tree_kind (scope_of items) e))) (condition_trees condition))
    (mismatch-none (has_unknown_alias items condition emits) (has_unknown_column items condition emits) (has_ambiguous_column items condition emits)
    (has_mismatch items condition emits) (has_misplaced condition emits) none)).1

-- the conjuncts are truths, and what is emitted has a type
record HasTypedParts (scope : List ScopeColumn) (c : Comprehension) : Type 0 where
  conjuncts : list_all (is_truth (kinds_in_scope scope)) c.conjuncts ≡ true
  emits : list_all (is_typed (kinds_in_scope scope)) c.emits ≡ true

parts-typed : (items : List ItemSchema) (condition : Option Tree) (emits : List EmitTree) → comprehension_kind items condition emits ≡ None
    → IfAny (λ (r : Resolved). HasTypedParts (scope_of items) r.comprehension) (resolved (scope_of items) condition emits)
parts-typed items condition emits none =
    by (conjuncts_of (scope_of items) condition) (condition-typed (scope_of items) condition (typed-condition items condition emits none))
    (each_or_none (emits_of_item (scope_of items)) emits) (emits-typed (scope_of items) emits (typed-emits items condition emits none))
  where
    by : (a : Option (List Scalar)) → IfAny (λ cs. list_all (is_truth (kinds_in_scope (scope_of items))) cs ≡ true) a
        → (b : Option (List (List Emit))) → IfAny (λ (ess : List (List Emit)). EachTyped (scope_of items) (flat_map (λ columns. columns) ess)) b
        → IfAny (λ (r : Resolved). HasTypedParts (scope_of items) r.comprehension)
        (option_and_then (λ joined. option_map (emitting joined) (option_map (flat_map (λ columns. columns)) b)) a)
    by None h b k = tt
    by (Some joined) h None k = tt
    by (Some joined) h (Some ess) k = record { conjuncts = h; emits = some-kinds (scope_of items) (flat_map (λ columns. columns) ess) k }

-- ---- shapes

at-least-one : (n : ℕ) → nat_lt 0 n ≡ not (n == 0)
at-least-one n = grind (arith, nat_tests)

at-most : (m n : ℕ) → nat_le n m ≡ not (nat_lt m n)
at-most m n = grind (arith, nat_tests)

each-atom : (kinds : List (List ColType)) → list_all is_atom (atoms_of kinds) ≡ not (list_any (λ (a : AtomTree). length a.kinds == 0) (atoms_of kinds))
each-atom [] = refl
each-atom (own ∷ kinds) = (λ i. (at-least-one (length own) i && true) && each-atom kinds i) ∙ by (length own == 0) (list_any (λ (a : AtomTree). length a.kinds == 0) (atoms_of kinds))
  where
    by : (a b : Bool) → ((not a && true) && not b) ≡ not (a || b)
    by true b = refl
    by false b = refl

atom-widths : (kinds : List (List ColType)) → map (λ (a : AtomTree). length a.kinds) (atoms_of kinds) ≡ widths_in kinds
atom-widths [] = refl
atom-widths (own ∷ kinds) = ap (λ ns. length own ∷ ns) (atom-widths kinds)

four : (a b c d : Bool) → (not a && not b && not c && (not d && true && true) && true) ≡ not (a || b || c || d)
four true b c d = refl
four false true c d = refl
four false false true d = refl
four false false false true = refl
four false false false false = refl

-- over typed parts a shape is well formed but for its numbers
shape-limits : (given : List MeantItem) (c : Comprehension) → HasTypedParts (scope_of (schemas_of given)) c
    → is_shape (shape_of (kinds_of_items given) c) ≡ not (has_parts_past_limit (shape_of (kinds_of_items given) c))
shape-limits given c typed =
    let shape = shape_of (kinds_of_items given) c in
    let scope = scope_of (schemas_of given) in
    let widths = widths_in (kinds_of_items given) in
    let same : kinds_of shape ≡ kinds_in_scope scope = scope-kinds 0 given in
    let total : length (kinds_of shape) ≡ sum widths =
    ap length same ∙ length-map scope (λ (s : ScopeColumn). s.kind) ∙ scope-wide 0 given in
    let tied : list_all (is_column_set (length (kinds_of shape)) (kinds_of shape) (widths_of shape)) (variables widths (equalities c.conjuncts)) ≡ true =
    (λ i. list_all (is_column_set (total i) (same i) (atom-widths (kinds_of_items given) i)) (variables widths (equalities c.conjuncts)))
    ∙ variables-typed widths (kinds_in_scope scope) (equalities c.conjuncts) (equalities-alike (kinds_in_scope scope) c.conjuncts typed.conjuncts) in
    let plain : list_all (is_plain_test (kinds_of shape)) (plain_of c.conjuncts) ≡ true =
    ap (λ ks. list_all (is_plain_test ks) (plain_of c.conjuncts)) same ∙ kept-both (is_truth (kinds_in_scope scope)) is_plain c.conjuncts typed.conjuncts in
    let arithmetic : list_all (is_truth (kinds_of shape)) (arithmetic_of c.conjuncts) ≡ true =
    ap (λ ks. list_all (is_truth ks) (arithmetic_of c.conjuncts)) same ∙ kept (is_truth (kinds_in_scope scope)) (λ e. not (is_plain e)) c.conjuncts typed.conjuncts in
    let emitted : list_all (is_typed (kinds_of shape)) c.emits ≡ true = ap (λ ks. list_all (is_typed ks) c.emits) same ∙ typed.emits in
    let front : are_atoms shape.atoms ≡ (not (length shape.atoms == 0) && not (nat_lt most_items (length shape.atoms)) && not (list_any (λ (a : AtomTree). length a.kinds == 0) shape.atoms)) =
    λ i. at-least-one (length shape.atoms) i && at-most most_items (length shape.atoms) i && each-atom (kinds_of_items given) i in
    let middle : are_variables (kinds_of shape) (widths_of shape) shape.variables ≡ (not (nat_lt most_variables (length shape.variables)) && true && true) =
    λ i. at-most most_variables (length shape.variables) i && tied i && variables-different widths (equalities c.conjuncts) i in
    let last : are_scalars (kinds_of shape) shape.plain shape.arith shape.emits ≡ true = λ i. plain i && arithmetic i && emitted i in
    (λ i. front i && middle i && last i)
    ∙ four (length shape.atoms == 0) (nat_lt most_items (length shape.atoms)) (list_any (λ (a : AtomTree). length a.kinds == 0) shape.atoms) (nat_lt most_variables (length shape.variables))

-- ---- terms

-- a term is past a limit exactly where it joins too many parts
abbrev HasLimits : Typed → Type 0
HasLimits t = is_term_past_limit t.term ≡ joins_past_limit t.term

one-limit : (f : Source → TermTree) → ((s : Source) → is_term_past_limit (f s) ≡ joins_past_limit (f s)) → (m : Option Meant) → IfAny HasLimits (of_one f m)
one-limit f g None = tt
one-limit f g (Some m) = g m.source

two-limit : (f : Source → Source → TermTree) → ((s t : Source) → is_term_past_limit (f s t) ≡ joins_past_limit (f s t)) → (m n : Option Meant) → IfAny HasLimits (of_two f m n)
two-limit f g None n = tt
two-limit f g (Some m) None = tt
two-limit f g (Some m) (Some n) = g m.source n.source

not-not : (b : Bool) → not (not b) ≡ b
not-not true = refl
not-not false = refl

join-limits : (given : List MeantItem) (c : Comprehension) → HasTypedParts (scope_of (schemas_of given)) c
    → is_term_past_limit (join_term (kinds_of_items given) (sources_of given) c) ≡ joins_past_limit (join_term (kinds_of_items given) (sources_of given) c)
join-limits given c typed = by (has_aggregate c.aggregates)
  where
    here : not (is_shape (shape_of (kinds_of_items given) c)) ≡ has_parts_past_limit (shape_of (kinds_of_items given) c)
    here = ap not (shape-limits given c typed) ∙ not-not (has_parts_past_limit (shape_of (kinds_of_items given) c))

    by : (b : Bool) → is_term_past_limit (cond b (Group (shape_of (kinds_of_items given) c) (sources_of given) c.aggregates) (Join (shape_of (kinds_of_items given) c) (sources_of given)))
        ≡ joins_past_limit (cond b (Group (shape_of (kinds_of_items given) c) (sources_of given) c.aggregates) (Join (shape_of (kinds_of_items given) c) (sources_of given)))
    by true = here
    by false = here

term-limits : (files : List File) (names : Names) (r : RelTree) → relation_kind files names r ≡ None → IfAny HasLimits (term_of files names r)
term-limits files names (tree.Copy o) e = one-limit Same (λ s. refl) (meant files names o)
term-limits files names (tree.Empty schema) e = refl
term-limits files names (tree.Distinct o) e = one-limit Distinct (λ s. refl) (meant files names o)
term-limits files names (tree.UnionAll o p) e = two-limit UnionAll (λ s t. refl) (meant files names o) (meant files names p)
term-limits files names (tree.Diff o p) e = two-limit Diff (λ s t. refl) (meant files names o) (meant files names p)
term-limits files names (tree.From items condition emits) e = by (each_or_none (item_meant files names) items) e
  where
    found : (given : List MeantItem) (x : Option Resolved) → IfAny (λ (r : Resolved). HasTypedParts (scope_of (schemas_of given)) r.comprehension) x
        → IfAny HasLimits (option_map (λ (r : Resolved). let t : Typed = record { term = join_term (kinds_of_items given) (sources_of given) r.comprehension; schema = r.schema } in t) x)
    found given None h = tt
    found given (Some r) h = join-limits given r.comprehension h

    by : (o : Option (List MeantItem)) → option_map_or (λ given. comprehension_kind (schemas_of given) condition emits) o None ≡ None
        → IfAny HasLimits (option_and_then (λ given. comprehension_term given condition emits) o)
    by None e = tt
    by (Some given) e = found given (resolved (scope_of (schemas_of given)) condition emits) (parts-typed (schemas_of given) condition emits e)

pub limit_is_of_numbers : LimitIsOfNumbers
limit_is_of_numbers files names r known none =
    ap (λ b. cond b (Some fault.UnknownRelation) (option_or (relation_kind files names r) (limit_kind (term_of files names r)))) known
    ∙ ap (λ k. option_or k (limit_kind (term_of files names r))) none
    ∙ by (term_of files names r) (term-limits files names r none)
  where
    by : (o : Option Typed) → IfAny HasLimits o → limit_kind o ≡ cond (option_map_or has_number_past_limit o false) (Some fault.Limit) None
    by None h = refl
    by (Some t) h = ap (λ b. cond (nat_lt most_columns (length t.schema) || length t.schema == 0 || b) (Some fault.Limit) None) h
