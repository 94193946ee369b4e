-- A statement without a kind resolves.
use Rattle.std.proofs.Common.{◌≡◌, ◌∙◌, ◌==◌, ℕ, Bool, true, false, ◌||◌, cond, List, [], ◌∷◌, length, Option, Some, None, refl, sym, ap, arith}
use Rattle.std.specs.Prelude.{is_none, is_some, nat_lt, option_map, option_and_then}
use Rattle.std.specs.List.{flat_map, list_any}
use Rattle.std.specs.Option.{option_map_or, option_or}
use Rattle.std.proofs.lemmas.Bool.Decides.{nat_tests}
use Rattle.std.proofs.lemmas.List.Concat.{flat_map-append}
use Rattle.std.proofs.lemmas.List.Folds.{list_any-append}
use Rattle.std.proofs.lemmas.Bool.{or_parts}
use Rattle.rel_base.specs.Each.{each_or_none, put_before}
use Rattle.rel_base.specs.Keys.{File}
use Rattle.myrial_ast.specs.declared.expressions.ColRef.{ColRef}
use Rattle.myrial_ast.specs.Trees.{Tree, EmitTree, RelTree}
use Rattle.myrial_ast.specs.Trees as tree
use Rattle.myrial_ast.specs.Operands.{operands_of}
use Rattle.myrial_meaning.specs.Environments.{assigned_to}
use Rattle.myrial_meaning.specs.Fetches.{loads_in}
use Rattle.myrial_ast.specs.Scalars.{Scalar, At, Not, Neg, Bin, conjuncts}
use Rattle.myrial_scopes.specs.Scopes.{ItemSchema, ScopeColumn, only, place_of, places_of, scalar_of, scope_of, has_doubled_alias}
use Rattle.myrial_scopes.specs.Emits.{Emit, aggregated, conjuncts_of, emit_of_scalar, emit_of_tree, emits_of, emits_of_item, emitting, named, resolved}
use Rattle.myrial_types.specs.declared.faults.TypeKind.{TypeKind}
use Rattle.myrial_types.specs.declared.faults.TypeKind.TheVariants as fault
use Rattle.myrial_types.specs.Fetching.{has_conflict}
use Rattle.myrial_types.specs.Resolving.{MeantItem, Names, comprehension_term, item_meant, meant, schemas_of, term_of}
use Rattle.myrial_types.specs.Kinds.{comprehension_kind, condition_trees, emitted_tree, first_of, has_ambiguous_column, has_any_aggregate, has_inner_aggregate, has_mismatch, has_misplaced, has_unknown_alias, has_unknown_column, is_unknown, limit_kind, references, references_in, relation_kind, typing_kind}
use Rattle.myrial_types.specs.Laws.{TypedStatementsResolve}
use Rattle.myrial_types.proofs.TypingLemmas.{any-unknown}

known : {X : Type 0} (o : Option X) → is_none o ≡ false → is_some o ≡ true
known None e = cc
known (Some x) e = refl

some-map : {X Y : Type 0} (f : X → Y) (o : Option X) → is_some o ≡ true → is_some (option_map f o) ≡ true
some-map f None e = e
some-map f (Some x) e = refl

-- ---- expressions

-- a reference means no column, or more than one
abbrev is_none_of : List ScopeColumn → ColRef → Bool
is_none_of scope r = length (places_of scope r) == 0

abbrev is_more_of : List ScopeColumn → ColRef → Bool
is_more_of scope r = nat_lt 1 (length (places_of scope r))

only-some : (xs : List ℕ) → (length xs == 0) ≡ false → nat_lt 1 (length xs) ≡ false → is_some (only xs) ≡ true
only-some [] e f = cc
only-some (x ∷ []) e f = refl
only-some (x ∷ y ∷ xs) e f = absurd (grind (arith, nat_tests, f))

two-some : (o : Scalar → Scalar → Scalar) (a b : Option Scalar) → is_some a ≡ true → is_some b ≡ true
    → is_some (option_and_then (λ left. option_map (λ right. o left right) b) a) ≡ true
two-some o None b e f = e
two-some o (Some s) None e f = f
two-some o (Some s) (Some t) e f = refl

module _ (scope : List ScopeColumn) where
  scalar-some : (e : Tree) → has_any_aggregate e ≡ false → list_any (is_none_of scope) (references e) ≡ false → list_any (is_more_of scope) (references e) ≡ false
      → is_some (scalar_of scope e) ≡ true
  scalar-some (tree.Lit v) a n m = refl
  scalar-some (tree.Col c) a n m =
      some-map At (place_of scope c) (only-some (places_of scope c) (or_parts (is_none_of scope c) false n).0 (or_parts (is_more_of scope c) false m).0)
  scalar-some (tree.Not e) a n m = some-map Not (scalar_of scope e) (scalar-some e a n m)
  scalar-some (tree.Neg e) a n m = some-map Neg (scalar_of scope e) (scalar-some e a n m)
  scalar-some (tree.Bin o l r) a n m =
      let gs = or_parts (has_any_aggregate l) (has_any_aggregate r) a in
      let ns = or_parts (list_any (is_none_of scope) (references l)) (list_any (is_none_of scope) (references r)) (sym (list_any-append (is_none_of scope) (references l) (references r)) ∙ n) in
      let ms = or_parts (list_any (is_more_of scope) (references l)) (list_any (is_more_of scope) (references r)) (sym (list_any-append (is_more_of scope) (references l) (references r)) ∙ m) in
      two-some (Bin o) (scalar_of scope l) (scalar_of scope r) (scalar-some l gs.0 ns.0 ms.0) (scalar-some r gs.1 ns.1 ms.1)
  scalar-some (tree.Agg o e) a n m = cc
  scalar-some (tree.AggAll o) a n m = cc

  emit-some : (e : Tree) → has_inner_aggregate e ≡ false → list_any (is_none_of scope) (references e) ≡ false → list_any (is_more_of scope) (references e) ≡ false
      → is_some (emit_of_tree scope e) ≡ true
  emit-some (tree.Lit v) a n m = refl
  emit-some (tree.Col c) a n m = some-map (emit_of_scalar scope) (scalar_of scope (tree.Col c)) (scalar-some (tree.Col c) a n m)
  emit-some (tree.Not e) a n m = some-map (emit_of_scalar scope) (scalar_of scope (tree.Not e)) (scalar-some (tree.Not e) a n m)
  emit-some (tree.Neg e) a n m = some-map (emit_of_scalar scope) (scalar_of scope (tree.Neg e)) (scalar-some (tree.Neg e) a n m)
  emit-some (tree.Bin o l r) a n m = some-map (emit_of_scalar scope) (scalar_of scope (tree.Bin o l r)) (scalar-some (tree.Bin o l r) a n m)
  emit-some (tree.Agg o e) a n m = some-map (aggregated scope o) (scalar_of scope e) (scalar-some e a n m)
  emit-some (tree.AggAll o) a n m = refl

  put-some : {X : Type 0} (o : Option X) (rest : Option (List X)) → is_some o ≡ true → is_some rest ≡ true → is_some (put_before o rest) ≡ true
  put-some None rest e f = e
  put-some (Some x) None e f = f
  put-some (Some x) (Some xs) e f = refl

  emits-some : (emits : List EmitTree) → list_any has_inner_aggregate (flat_map emitted_tree emits) ≡ false
      → list_any (is_none_of scope) (flat_map references (flat_map emitted_tree emits)) ≡ false
      → list_any (is_more_of scope) (flat_map references (flat_map emitted_tree emits)) ≡ false
      → is_some (each_or_none (emits_of_item scope) emits) ≡ true
  emits-some [] a n m = refl
  emits-some (tree.All ∷ emits) a n m = put-some (emits_of_item scope tree.All) (each_or_none (emits_of_item scope) emits) refl (emits-some emits a n m)
  emits-some (tree.AllOf alias ∷ emits) a n m = put-some (emits_of_item scope (tree.AllOf alias)) (each_or_none (emits_of_item scope) emits) refl (emits-some emits a n m)
  emits-some (tree.One e name ∷ emits) a n m =
      let rest = flat_map references (flat_map emitted_tree emits) in
      let gs = or_parts (has_inner_aggregate e) (list_any has_inner_aggregate (flat_map emitted_tree emits)) a in
      let ns = or_parts (list_any (is_none_of scope) (references e)) (list_any (is_none_of scope) rest) (sym (list_any-append (is_none_of scope) (references e) rest) ∙ n) in
      let ms = or_parts (list_any (is_more_of scope) (references e)) (list_any (is_more_of scope) rest) (sym (list_any-append (is_more_of scope) (references e) rest) ∙ m) in
      put-some (emits_of_item scope (tree.One e name)) (each_or_none (emits_of_item scope) emits)
      (some-map (λ emit. named name emit ∷ []) (emit_of_tree scope e) (emit-some e gs.0 ns.0 ms.0)) (emits-some emits gs.1 ns.1 ms.1)

  condition-some : (condition : Option Tree) → list_any has_any_aggregate (condition_trees condition) ≡ false
      → list_any (is_none_of scope) (flat_map references (condition_trees condition)) ≡ false
      → list_any (is_more_of scope) (flat_map references (condition_trees condition)) ≡ false
      → is_some (conjuncts_of scope condition) ≡ true
  condition-some None a n m = refl
  condition-some (Some e) a n m =
      let gs = or_parts (has_any_aggregate e) false a in
      let ns = or_parts (list_any (is_none_of scope) (references e)) false (sym (list_any-append (is_none_of scope) (references e) []) ∙ n) in
      let ms = or_parts (list_any (is_more_of scope) (references e)) false (sym (list_any-append (is_more_of scope) (references e) []) ∙ m) in
      some-map conjuncts (scalar_of scope e) (scalar-some e gs.0 ns.0 ms.0)

  resolved-some : (condition : Option Tree) (emits : List EmitTree) → is_some (conjuncts_of scope condition) ≡ true → is_some (each_or_none (emits_of_item scope) emits) ≡ true
      → is_some (resolved scope condition emits) ≡ true
  resolved-some condition emits e f = by (conjuncts_of scope condition) (emits_of scope emits) e (some-map (flat_map (λ columns. columns)) (each_or_none (emits_of_item scope) emits) f)
    where
      by : (a : Option (List Scalar)) (b : Option (List Emit)) → is_some a ≡ true → is_some b ≡ true
          → is_some (option_and_then (λ joined. option_map (emitting joined) b) a) ≡ true
      by None b e f = e
      by (Some joined) None e f = f
      by (Some joined) (Some es) e f = refl

-- ---- comprehensions

first-none : (a b c d e : Bool) → first_of a b c d e ≡ None → (b ≡ false) × (c ≡ false) × (e ≡ false)
first-none true b c d e f = cc
first-none false true c d e f = cc
first-none false false true d e f = cc
first-none false false false true e f = cc
first-none false false false false true f = cc
first-none false false false false false f = (refl, refl, refl)

module _ (items : List ItemSchema) (condition : Option Tree) (emits : List EmitTree) where
  comprehension-some : comprehension_kind items condition emits ≡ None → is_some (resolved (scope_of items) condition emits) ≡ true
  comprehension-some none =
      let facts = first-none (has_unknown_alias items condition emits) (has_unknown_column items condition emits)
      (has_ambiguous_column items condition emits) (has_mismatch items condition emits) (has_misplaced condition emits) none in
      let scope = scope_of items in
      let conditions = flat_map references (condition_trees condition) in
      let emitted = flat_map references (flat_map emitted_tree emits) in
      let split = flat_map-append references (condition_trees condition) (flat_map emitted_tree emits) in
      let more = or_parts (list_any (is_more_of scope) (references_in condition emits)) (has_doubled_alias items) facts.1 in
      let ns = or_parts (list_any (is_none_of scope) conditions) (list_any (is_none_of scope) emitted)
      (sym (list_any-append (is_none_of scope) conditions emitted) ∙ (ap (list_any (is_none_of scope)) (sym split) ∙ facts.0)) in
      let ms = or_parts (list_any (is_more_of scope) conditions) (list_any (is_more_of scope) emitted)
      (sym (list_any-append (is_more_of scope) conditions emitted) ∙ (ap (list_any (is_more_of scope)) (sym split) ∙ more.0)) in
      let gs = or_parts (list_any has_any_aggregate (condition_trees condition)) (list_any has_inner_aggregate (flat_map emitted_tree emits)) facts.2 in
      resolved-some scope condition emits (condition-some scope condition gs.0 ns.0 ms.0) (emits-some scope emits gs.1 ns.1 ms.1)

-- ---- statements

if-none : (b : Bool) (k : TypeKind) (o : Option TypeKind) → cond b (Some k) o ≡ None → (b ≡ false) × (o ≡ None)
if-none true k o e = cc
if-none false k o e = (refl, e)

or-none : (o p : Option TypeKind) → option_or o p ≡ None → o ≡ None
or-none None p e = refl
or-none (Some k) p e = cc

pair-some : {X Y Z : Type 0} (f : X → Y → Z) (a : Option X) (b : Option Y) → is_some a ≡ true → is_some b ≡ true
    → is_some (option_and_then (λ x. option_map (λ y. f x y) b) a) ≡ true
pair-some f None b e g = e
pair-some f (Some x) None e g = g
pair-some f (Some x) (Some y) e g = refl

-- a comprehension over known items
over-some : (condition : Option Tree) (emits : List EmitTree) (o : Option (List MeantItem)) → is_some o ≡ true
    → option_map_or (λ given. comprehension_kind (schemas_of given) condition emits) o None ≡ None
    → is_some (option_and_then (λ given. comprehension_term given condition emits) o) ≡ true
over-some condition emits None e g = e
over-some condition emits (Some given) e g = some-map _ (resolved (scope_of (schemas_of given)) condition emits) (comprehension-some (schemas_of given) condition emits g)

module _ (files : List File) (names : Names) where
  term-some : (r : RelTree) → typing_kind files names r ≡ None → is_some (term_of files names r) ≡ true
  term-some r none = by r (if-none (list_any (is_unknown files names) (operands_of r)) fault.UnknownRelation (option_or (relation_kind files names r) (limit_kind (term_of files names r))) none)
    where
      by : (r : RelTree) → (list_any (is_unknown files names) (operands_of r) ≡ false) × (option_or (relation_kind files names r) (limit_kind (term_of files names r)) ≡ None)
          → is_some (term_of files names r) ≡ true
      by (tree.Copy o) h = some-map _ (meant files names o) (known (meant files names o) (or_parts (is_none (meant files names o)) false h.0).0)
      by (tree.Empty schema) h = refl
      by (tree.Distinct o) h = some-map _ (meant files names o) (known (meant files names o) (or_parts (is_none (meant files names o)) false h.0).0)
      by (tree.UnionAll o p) h =
          let parts = or_parts (is_none (meant files names o)) (is_none (meant files names p) || false) h.0 in
          pair-some _ (meant files names o) (meant files names p) (known (meant files names o) parts.0) (known (meant files names p) (or_parts (is_none (meant files names p)) false parts.1).0)
      by (tree.Diff o p) h =
          let parts = or_parts (is_none (meant files names o)) (is_none (meant files names p) || false) h.0 in
          pair-some _ (meant files names o) (meant files names p) (known (meant files names o) parts.0) (known (meant files names p) (or_parts (is_none (meant files names p)) false parts.1).0)
      by (tree.From items condition emits) h =
          over-some condition emits (each_or_none (item_meant files names) items) (known (each_or_none (item_meant files names) items) (sym (any-unknown files names items) ∙ h.0))
          (or-none (relation_kind files names (tree.From items condition emits)) (limit_kind (term_of files names (tree.From items condition emits))) h.1)

pub typed_statements_resolve : TypedStatementsResolve
typed_statements_resolve = record {
  assigned = λ files names earlier name r none.
      term-some files names r (or-none (typing_kind files names r) (cond (has_conflict earlier (loads_in (tree.Assign name r))) (Some fault.LoadConflict) None) none);
  stored = λ files names earlier name key none.
      known (assigned_to names name) (if-none (is_none (assigned_to names name)) fault.UnknownRelation None none).0;
}
