-- The steps of a typed script are of its files: their sources are there, their numbers rise, and their terms have the types of
-- their columns.
use Rattle.std.proofs.Common.{◌≡◌, ◌∙◌, ℕ, ◌+◌, ◌<◌, ◌==◌, Bool, true, false, cond, not, find, List, [], ◌∷◌, ◌++◌, map, length, refl, sym, ap, subst, arith, Option, Some, None}
use Rattle.std.specs.Prelude.{All, filter, nat_lt, option_map, option_and_then, is_some, is_none, slice_get, ⊤, ◌&&◌, ◌||◌}
use Rattle.std.specs.Option.{option_map_or}
use Rattle.std.specs.List.{list_any, list_all, flat_map, enumerate_from, zip}
use Rattle.std.specs.Cmp.Lexicographic.{pointwise}
use Rattle.std.proofs.lemmas.Bool.{and_from, and_parts, eqb-true, or_left, or_parts, or_right}
use Rattle.std.proofs.lemmas.Bool.Decides.{nat_tests}
use Rattle.std.proofs.lemmas.List.{append_assoc, length-map, map-append}
use Rattle.std.proofs.lemmas.List.Folds.{list_any-append}
use Rattle.std.proofs.lemmas.List.Elements.{All-nil, All-cons, All-weaker, All-append}
use Rattle.rel_base.specs.Each.{each_or_none, put_before}
use Rattle.rel_base.specs.Keys.{File, same_key}
use Rattle.rel_base.specs.Relations.{same_type}
use Rattle.rel_base.specs.declared.names.Key.{Key}
use Rattle.rel_base.specs.declared.relations.Column.{Column}
use Rattle.rel_base.specs.declared.values.ColType.{ColType}
use Rattle.rel_base.specs.declared.values.ColType.TheVariants as kind
use Rattle.myrial_ast.specs.declared.operators.AggOp.{AggOp}
use Rattle.myrial_ast.specs.declared.relations.FromItem.{FromItem}
use Rattle.myrial_ast.specs.declared.relations.Operand.{Operand}
use Rattle.myrial_ast.specs.declared.relations.Operand.TheVariants as operand
use Rattle.myrial_ast.specs.Loads.{is_load_key}
use Rattle.myrial_ast.specs.Operands.{operands_of}
use Rattle.myrial_ast.specs.Trees.{Name, Tree, EmitTree, RelTree, StatementTree}
use Rattle.myrial_ast.specs.Trees as tree
use Rattle.myrial_ast.specs.Scalars.{Scalar}
use Rattle.myrial_ast.specs.Groups.{has_aggregate}
use Rattle.myrial_scopes.specs.Scopes.{ItemSchema, ScopeColumn, columns_of, scope_of, scoped, same_name}
use Rattle.myrial_scopes.specs.Emits.{Emit, Resolved, conjuncts_of, emits_of_item, emitting, resolved}
use Rattle.myrial_meaning.specs.Environments.{assigned_to, nothing_yet, operand_of, with_key}
use Rattle.myrial_meaning.specs.Fetches.{loads_of}
use Rattle.algebra.specs.declared.terms.Source.{Source}
use Rattle.algebra.specs.declared.terms.Source.TheVariants as source
use Rattle.algebra.specs.Trees.{AtomTree, TermTree, Same, UnionAll, Diff, Distinct, Join, Group, StepTree, CheckedTree}
use Rattle.algebra.specs.Shapes.{shape_of}
use Rattle.algebra.specs.ShapeConditions.{is_kind, is_shape, kind_in}
use Rattle.algebra.specs.Conditions.{are_steps, emitted_kind, has_kinds, is_store, is_term, kinds_of_columns, same_kinds, source_kinds}
use Rattle.algebra.proofs.TypeLemmas.{same_type-equal, same_type-itself}
use Rattle.myrial_types.specs.declared.faults.TypeKind.TheVariants as fault
use Rattle.myrial_types.specs.Checking.{step_of, store_of, with_result}
use Rattle.myrial_types.specs.Kinds.{comprehension_kind, condition_trees, differ, emitted_tree, first_of, has_ambiguous_column, has_mismatch, has_misplaced, has_unknown_alias, has_unknown_column, is_past_limit, is_term_past_limit, limit_kind, relation_kind, tree_kind}
use Rattle.myrial_types.specs.Laws.{StepsAreOfTheFiles}
use Rattle.myrial_types.specs.Resolving.{Meant, MeantItem, Names, Typed, comprehension_term, file_meant, files_meant, item_meant, join_term, kinds_of_items, meant, of_one, of_two, schemas_of, sources_of, term_of}
use Rattle.myrial_types.proofs.FollowLemmas.{Follows, at_end, a_nothing, an_assignment, a_store, no-mismatch, typed-follows, typed-kinds}
use Rattle.myrial_types.proofs.LoadLemmas.{AllFit, fit-apart}
use Rattle.myrial_types.proofs.ScalarKindLemmas.{EachTyped, emits-typed, group-columns, join-columns, kinds_in_scope, schema-kinds}
use Rattle.myrial_types.proofs.ValueLemmas.{IfAny, meant-All, written-same}

-- ---- what a typed comprehension emits

record HasTypedEmits (scope : List ScopeColumn) (b : Resolved) : Type 0 where
  as_many : (length b.comprehension.aggregates == length b.comprehension.emits) ≡ true
  groups : pointwise (λ (p : Option AggOp × Scalar) k. is_kind k (emitted_kind p.0 (kind_in (kinds_in_scope scope) p.1))) (zip b.comprehension.aggregates b.comprehension.emits) (kinds_of_columns b.schema) ≡ true
  joins : has_aggregate b.comprehension.aggregates ≡ false
      → pointwise (λ e k. is_kind k (kind_in (kinds_in_scope scope) e)) b.comprehension.emits (kinds_of_columns b.schema) ≡ true

same-count : (n m k : ℕ) → n ≡ k → m ≡ k → (n == m) ≡ true
same-count n m k e f = grind (arith, nat_tests, e, f)

emitting-typed : (scope : List ScopeColumn) (joined : List Scalar) (es : List Emit) → EachTyped scope es → HasTypedEmits scope (emitting joined es)
emitting-typed scope joined es typed = record {
  as_many = same-count (length (map (λ (e : Emit). e.aggregate) es)) (length (map (λ (e : Emit). e.scalar) es)) (length es) (length-map es (λ (e : Emit). e.aggregate)) (length-map es (λ (e : Emit). e.scalar));
  groups =
      ap (pointwise (λ (p : Option AggOp × Scalar) k. is_kind k (emitted_kind p.0 (kind_in (kinds_in_scope scope) p.1))) (zip (map (λ (e : Emit). e.aggregate) es) (map (λ (e : Emit). e.scalar) es))) (schema-kinds 0 es)
      ∙ group-columns scope es typed;
  joins = λ none.
      ap (pointwise (λ e k. is_kind k (kind_in (kinds_in_scope scope) e)) (map (λ (e : Emit). e.scalar) es)) (schema-kinds 0 es)
      ∙ join-columns scope es typed none;
}

resolved-typed : (scope : List ScopeColumn) (condition : Option Tree) (emits : List EmitTree)
    → list_any (λ e. is_none (tree_kind scope e)) (flat_map emitted_tree emits) ≡ false → IfAny (HasTypedEmits scope) (resolved scope condition emits)
resolved-typed scope condition emits none =
    by (conjuncts_of scope condition) (each_or_none (emits_of_item scope) emits) (emits-typed scope emits none)
  where
    by : (a : Option (List Scalar)) (b : Option (List (List Emit))) → IfAny (λ (ess : List (List Emit)). EachTyped scope (flat_map (λ columns. columns) ess)) b
        → IfAny (HasTypedEmits scope) (option_and_then (λ joined. option_map (emitting joined) (option_map (flat_map (λ columns. columns)) b)) a)
    by None b t = tt
    by (Some joined) None t = tt
    by (Some joined) (Some ess) t = emitting-typed scope joined (flat_map (λ columns. columns) ess) t

-- a comprehension without a kind has no mismatch
pub mismatch-none : (a b c d e : Bool) → first_of a b c d e ≡ None → d ≡ false
mismatch-none true b c d e f = cc
mismatch-none false true c d e f = cc
mismatch-none false false true d e f = cc
mismatch-none false false false true e f = cc
mismatch-none false false false false e f = refl

pub typed-emits : (items : List ItemSchema) (condition : Option Tree) (emits : List EmitTree) → comprehension_kind items condition emits ≡ None
    → list_any (λ e. is_none (tree_kind (scope_of items) e)) (flat_map emitted_tree emits) ≡ false
typed-emits items condition emits none =
    let trees = or_parts (list_any (λ e. is_none (tree_kind (scope_of items) e)) (condition_trees condition ++ flat_map emitted_tree emits))
    (list_any (λ e. not (is_kind kind.Bool (tree_kind (scope_of items) e))) (condition_trees condition))
    (mismatch-none (has_unknown_alias items condition emits) (has_unknown_column items condition emits) (has_ambiguous_column items condition emits)
    (has_mismatch items condition emits) (has_misplaced condition emits) none) in
    (or_parts (list_any (λ e. is_none (tree_kind (scope_of items) e)) (condition_trees condition)) (list_any (λ e. is_none (tree_kind (scope_of items) e)) (flat_map emitted_tree emits))
    (sym (list_any-append (λ e. is_none (tree_kind (scope_of items) e)) (condition_trees condition) (flat_map emitted_tree emits)) ∙ trees.0)).1

-- ---- the columns of a shape

abbrev pub atoms_of : List (List ColType) → List AtomTree
atoms_of kinds = map (λ own. record { kinds = own; keeps = [] }) kinds

columns-kinds : (number : ℕ) (i : ItemSchema) (from : ℕ) (cs : List Column)
    → map (λ (c : ScopeColumn). c.kind) (map (λ (p : ℕ × Column). scoped number i.alias p.0 p.1) (enumerate_from from cs)) ≡ kinds_of_columns cs
columns-kinds number i from [] = refl
columns-kinds number i from (c ∷ cs) = ap (λ ks. c.kind ∷ ks) (columns-kinds number i (from + 1) cs)

-- the types of the combined row are those of the scope
pub scope-kinds : (number : ℕ) (given : List MeantItem)
    → flat_map (λ (a : AtomTree). a.kinds) (atoms_of (kinds_of_items given))
    ≡ map (λ (c : ScopeColumn). c.kind) (flat_map (λ (p : ℕ × ItemSchema). columns_of p.0 p.1) (enumerate_from number (schemas_of given)))
scope-kinds number [] = refl
scope-kinds number (g ∷ given) =
    let own : ItemSchema = record { alias = g.alias; schema = g.meant.schema } in
    let rest = flat_map (λ (p : ℕ × ItemSchema). columns_of p.0 p.1) (enumerate_from (number + 1) (schemas_of given)) in
    ap (λ ks. kinds_of_columns g.meant.schema ++ ks) (scope-kinds (number + 1) given)
    ∙ ap (λ ks. ks ++ map (λ (c : ScopeColumn). c.kind) rest) (sym (columns-kinds number own 0 g.meant.schema))
    ∙ sym (map-append (λ (c : ScopeColumn). c.kind) (columns_of number own) rest)

-- ---- sources

same_kinds-itself : (ks : List ColType) → same_kinds ks ks ≡ true
same_kinds-itself [] = refl
same_kinds-itself (k ∷ ks) = and_from (same_type k k) (same_kinds ks ks) (same_type-itself k) (same_kinds-itself ks)

same_type-turned : (a b : ColType) → same_type a b ≡ true → same_type b a ≡ true
same_type-turned a b e = subst (λ k. same_type k a ≡ true) (same_type-equal a b e) (same_type-itself a)

same_kinds-turned : (a b : List ColType) → same_kinds a b ≡ true → same_kinds b a ≡ true
same_kinds-turned [] [] e = refl
same_kinds-turned [] (y ∷ ys) e = cc
same_kinds-turned (x ∷ xs) [] e = cc
same_kinds-turned (x ∷ xs) (y ∷ ys) e =
    let parts = and_parts (same_type x y) (same_kinds xs ys) e in
    and_from (same_type y x) (same_kinds ys xs) (same_type-turned x y parts.0) (same_kinds-turned xs ys parts.1)

abbrev Has : List StepTree → ℕ → Type 0
Has steps k = list_any (λ (s : StepTree). s.statement == k) steps ≡ true

abbrev Known : ℕ → List StepTree → Source → Type 0
Known number earlier (source.File place) = ⊤
Known number earlier (source.Result k) = (k < number) × Has earlier k

-- what a name stands for is a file or an earlier step, with its columns
record Stands (files : List File) (number : ℕ) (earlier : List StepTree) (m : Meant) : Type 0 where
  kinds : source_kinds files earlier m.source ≡ Some (kinds_of_columns m.schema)
  known : Known number earlier m.source

later-known : (number : ℕ) (earlier : List StepTree) (o : Source) → Known number earlier o → Known (number + 1) earlier o
later-known number earlier (source.File place) h = tt
later-known number earlier (source.Result k) h = (omega (arith, h.0), h.1)

later-stands : (files : List File) (number : ℕ) (earlier : List StepTree) (m : Meant) → Stands files number earlier m → Stands files (number + 1) earlier m
later-stands files number earlier m h = record { kinds = h.kinds; known = later-known number earlier m.source h.known }

itself : (n : ℕ) → (n == n) ≡ true
itself n = grind (arith, nat_tests)

-- a step more hides none
module _ (files : List File) (number : ℕ) (earlier : List StepTree) (t : Typed) where
  behind-source : (o : Source) → Known number earlier o → source_kinds files (step_of number t ∷ earlier) o ≡ source_kinds files earlier o
  behind-source (source.File place) h = refl
  behind-source (source.Result k) h = by (number == k) refl
    where
      by : (b : Bool) → (number == k) ≡ b
          → option_map (λ (s : StepTree). kinds_of_columns s.schema) (cond b (Some (step_of number t)) (find (λ (s : StepTree). s.statement == k) earlier))
          ≡ option_map (λ (s : StepTree). kinds_of_columns s.schema) (find (λ (s : StepTree). s.statement == k) earlier)
      by true e = absurd (omega (arith, eqb-true number k e, h.0))
      by false e = refl

  behind-known : (o : Source) → Known number earlier o → Known (number + 1) (step_of number t ∷ earlier) o
  behind-known (source.File place) h = tt
  behind-known (source.Result k) h = (omega (arith, h.0), or_right (number == k) (list_any (λ (s : StepTree). s.statement == k) earlier) h.1)

  behind-stands : (m : Meant) → Stands files number earlier m → Stands files (number + 1) (step_of number t ∷ earlier) m
  behind-stands m h = record { kinds = behind-source m.source h.known ∙ h.kinds; known = behind-known m.source h.known }

  new-stands : Stands files (number + 1) (step_of number t ∷ earlier) (record { source = source.Result number; schema = t.schema })
  new-stands = record {
    kinds = ap (λ b. option_map (λ (s : StepTree). kinds_of_columns s.schema) (cond b (Some (step_of number t)) (find (λ (s : StepTree). s.statement == number) earlier))) (itself number);
    known = (omega arith, ap (λ b. b || list_any (λ (s : StepTree). s.statement == number) earlier) (itself number));
  }

-- files
file-at : (front : List File) (f : File) (rest : List File) → slice_get (front ++ f ∷ rest) (length front) ≡ Some f
file-at [] f rest = refl
file-at (g ∷ front) f rest = file-at front f rest

length-pushed : (xs : List File) (x : File) → length (xs ++ x ∷ []) ≡ length xs + 1
length-pushed [] x = refl
length-pushed (y ∷ xs) x = omega (arith, length-pushed xs x)

files-stand : (number : ℕ) (earlier : List StepTree) (files front rest : List File) → files ≡ front ++ rest
    → All (λ (p : Key × Meant). Stands files number earlier p.1) (map file_meant (enumerate_from (length front) rest))
files-stand number earlier files front [] e = All-nil (λ (p : Key × Meant). Stands files number earlier p.1)
files-stand number earlier files front (f ∷ rest) e =
    All-cons (λ (p : Key × Meant). Stands files number earlier p.1) (file_meant (length front, f)) (map file_meant (enumerate_from (length front + 1) rest))
    (record { kinds = ap (option_map (λ (g : File). kinds_of_columns g.1.schema)) (ap (λ fs. slice_get fs (length front)) e ∙ file-at front f rest); known = tt })
    (subst (λ n. All (λ (p : Key × Meant). Stands files number earlier p.1) (map file_meant (enumerate_from n rest))) (length-pushed front f)
    (files-stand number earlier files (front ++ f ∷ []) rest (e ∙ sym (append_assoc front (f ∷ []) rest))))

record AllStand (files : List File) (number : ℕ) (earlier : List StepTree) (names : Names) : Type 0 where
  assigned : All (λ (p : Name × Meant). Stands files number earlier p.1) names.assigned
  stored : All (λ (p : Key × Meant). Stands files number earlier p.1) names.stored

-- ---- terms

module _ (files : List File) (number : ℕ) (earlier : List StepTree) (names : Names) (stand : AllStand files number earlier names) where
  name-stands : (name : Name) → IfAny (Stands files number earlier) (assigned_to names name)
  name-stands name = meant-All (Stands files number earlier) (λ n. same_name n name) names.assigned stand.assigned

  known-stands : (o : Operand) → IfAny (Stands files number earlier) (operand_of (files_meant files) names o)
  known-stands (operand.Named name) = name-stands name
  known-stands (operand.Scan key) =
      meant-All (Stands files number earlier) (λ k. same_key k key) (names.stored ++ files_meant files)
      (All-append (λ (p : Key × Meant). Stands files number earlier p.1) names.stored (files_meant files) stand.stored (files-stand number earlier files [] files refl))
  known-stands (operand.Load name schema skip) =
      meant-All (Stands files number earlier) (is_load_key name) (files_meant files) (files-stand number earlier files [] files refl)

  operand-stands : (o : Operand) → AllFit files (loads_of o) → IfAny (Stands files number earlier) (meant files names o)
  operand-stands o h = subst (IfAny (Stands files number earlier)) (sym (written-same files names o h)) (known-stands o)

  own-kinds : (m : Meant) → Stands files number earlier m → has_kinds (source_kinds files earlier m.source) (kinds_of_columns m.schema) ≡ true
  own-kinds m h = ap (λ o. has_kinds o (kinds_of_columns m.schema)) h.kinds ∙ same_kinds-itself (kinds_of_columns m.schema)

  one-formed : (f : Source → TermTree) → ((s : Source) (columns : List ColType) → is_term (source_kinds files earlier) (f s) columns ≡ has_kinds (source_kinds files earlier s) columns)
      → (m : Option Meant) → IfAny (Stands files number earlier) m → IfAny (λ (t : Typed). is_term (source_kinds files earlier) t.term (kinds_of_columns t.schema) ≡ true) (of_one f m)
  one-formed f g None h = tt
  one-formed f g (Some m) h = g m.source (kinds_of_columns m.schema) ∙ own-kinds m h

  two-formed : (f : Source → Source → TermTree)
      → ((s t : Source) (columns : List ColType) → is_term (source_kinds files earlier) (f s t) columns ≡ (has_kinds (source_kinds files earlier s) columns && has_kinds (source_kinds files earlier t) columns))
      → (m n : Option Meant) → IfAny (Stands files number earlier) m → IfAny (Stands files number earlier) n
      → not (same_kinds (option_map_or (λ (m : Meant). kinds_of_columns m.schema) m []) (option_map_or (λ (m : Meant). kinds_of_columns m.schema) n [])) ≡ false
      → IfAny (λ (t : Typed). is_term (source_kinds files earlier) t.term (kinds_of_columns t.schema) ≡ true) (of_two f m n)
  two-formed f g None n h k e = tt
  two-formed f g (Some m) None h k e = tt
  two-formed f g (Some m) (Some n) h k e =
      g m.source n.source (kinds_of_columns m.schema)
      ∙ and_from (has_kinds (source_kinds files earlier m.source) (kinds_of_columns m.schema)) (has_kinds (source_kinds files earlier n.source) (kinds_of_columns m.schema)) (own-kinds m h)
      (ap (λ o. has_kinds o (kinds_of_columns m.schema)) k.kinds
      ∙ same_kinds-turned (kinds_of_columns m.schema) (kinds_of_columns n.schema) (unnot (same_kinds (kinds_of_columns m.schema) (kinds_of_columns n.schema)) e))
    where
      unnot : (b : Bool) → not b ≡ false → b ≡ true
      unnot true e = refl
      unnot false e = cc

  abbrev EachStands : List MeantItem → Type 0
  EachStands [] = ⊤
  EachStands (g ∷ given) = Stands files number earlier g.meant × EachStands given

  items-stand : (items : List FromItem) → AllFit files (flat_map loads_of (map (λ (item : FromItem). item.source) items))
      → IfAny EachStands (each_or_none (item_meant files names) items)
  items-stand [] h = tt
  items-stand (item ∷ items) h =
      let parts = fit-apart files (loads_of item.source) (flat_map loads_of (map (λ (item : FromItem). item.source) items)) h in
      by (meant files names item.source) (operand-stands item.source parts.0) (each_or_none (item_meant files names) items) (items-stand items parts.1)
    where
      by : (o : Option Meant) → IfAny (Stands files number earlier) o → (rest : Option (List MeantItem)) → IfAny EachStands rest
          → IfAny EachStands (put_before (option_map (λ m. let i : MeantItem = record { alias = item.alias; meant = m } in i) o) rest)
      by None h rest k = tt
      by (Some m) h None k = tt
      by (Some m) h (Some given) k = (h, k)

  sources-there : (given : List MeantItem) → EachStands given
      → pointwise (λ s (a : AtomTree). has_kinds (source_kinds files earlier s) a.kinds) (sources_of given) (atoms_of (kinds_of_items given)) ≡ true
  sources-there [] h = refl
  sources-there (g ∷ given) h =
      and_from (has_kinds (source_kinds files earlier g.meant.source) (kinds_of_columns g.meant.schema))
      (pointwise (λ s (a : AtomTree). has_kinds (source_kinds files earlier s) a.kinds) (sources_of given) (atoms_of (kinds_of_items given)))
      (own-kinds g.meant h.0) (sources-there given h.1)

  join-formed : (given : List MeantItem) → EachStands given → (b : Resolved) → HasTypedEmits (scope_of (schemas_of given)) b
      → is_term_past_limit (join_term (kinds_of_items given) (sources_of given) b.comprehension) ≡ false
      → is_term (source_kinds files earlier) (join_term (kinds_of_items given) (sources_of given) b.comprehension) (kinds_of_columns b.schema) ≡ true
  join-formed given h b typed = by (has_aggregate b.comprehension.aggregates) refl
    where
      unnot : (b : Bool) → not b ≡ false → b ≡ true
      unnot true e = refl
      unnot false e = cc

      by : (t : Bool) → has_aggregate b.comprehension.aggregates ≡ t
          → is_term_past_limit (cond t (Group (shape_of (kinds_of_items given) b.comprehension) (sources_of given) b.comprehension.aggregates) (Join (shape_of (kinds_of_items given) b.comprehension) (sources_of given))) ≡ false
          → is_term (source_kinds files earlier) (cond t (Group (shape_of (kinds_of_items given) b.comprehension) (sources_of given) b.comprehension.aggregates) (Join (shape_of (kinds_of_items given) b.comprehension) (sources_of given))) (kinds_of_columns b.schema) ≡ true
      by true e limit =
          rw (unnot (is_shape (shape_of (kinds_of_items given) b.comprehension)) limit, sources-there given h, typed.as_many)
          (ap (λ ks. pointwise (λ (p : Option AggOp × Scalar) k. is_kind k (emitted_kind p.0 (kind_in ks p.1))) (zip b.comprehension.aggregates b.comprehension.emits) (kinds_of_columns b.schema)) (scope-kinds 0 given) ∙ typed.groups)
      by false e limit =
          rw (unnot (is_shape (shape_of (kinds_of_items given) b.comprehension)) limit, sources-there given h)
          (ap (λ ks. pointwise (λ e k. is_kind k (kind_in ks e)) b.comprehension.emits (kinds_of_columns b.schema)) (scope-kinds 0 given) ∙ typed.joins e)

  term-formed : (r : RelTree) → AllFit files (flat_map loads_of (operands_of r)) → relation_kind files names r ≡ None → limit_kind (term_of files names r) ≡ None
      → IfAny (λ (t : Typed). is_term (source_kinds files earlier) t.term (kinds_of_columns t.schema) ≡ true) (term_of files names r)
  term-formed (tree.Copy o) fit e f = one-formed Same (λ s columns. refl) (meant files names o) (operand-stands o (fit-apart files (loads_of o) [] fit).0)
  term-formed (tree.Empty schema) fit e f = refl
  term-formed (tree.Distinct o) fit e f = one-formed Distinct (λ s columns. refl) (meant files names o) (operand-stands o (fit-apart files (loads_of o) [] fit).0)
  term-formed (tree.UnionAll o p) fit e f =
      let parts = fit-apart files (loads_of o) (loads_of p ++ []) fit in
      two-formed UnionAll (λ s t columns. refl) (meant files names o) (meant files names p) (operand-stands o parts.0)
      (operand-stands p (fit-apart files (loads_of p) [] parts.1).0) (no-mismatch (differ files names o p) e)
  term-formed (tree.Diff o p) fit e f =
      let parts = fit-apart files (loads_of o) (loads_of p ++ []) fit in
      two-formed Diff (λ s t columns. refl) (meant files names o) (meant files names p) (operand-stands o parts.0)
      (operand-stands p (fit-apart files (loads_of p) [] parts.1).0) (no-mismatch (differ files names o p) e)
  term-formed (tree.From items condition emits) fit e f = by (each_or_none (item_meant files names) items) (items-stand items fit) e f
    where
      limits : (t : Typed) → limit_kind (Some t) ≡ None → is_term_past_limit t.term ≡ false
      limits t e = (or_parts (nat_lt 16 (length t.schema) || length t.schema == 0) (is_term_past_limit t.term) (at (is_past_limit t) e)).1
        where
          at : (b : Bool) → cond b (Some fault.Limit) None ≡ None → b ≡ false
          at true e = cc
          at false e = refl

      found : (given : List MeantItem) → EachStands given → (x : Option Resolved) → IfAny (HasTypedEmits (scope_of (schemas_of given))) x
          → limit_kind (option_map (λ (b : Resolved). let t : Typed = record { term = join_term (kinds_of_items given) (sources_of given) b.comprehension; schema = b.schema } in t) x) ≡ None
          → IfAny (λ (t : Typed). is_term (source_kinds files earlier) t.term (kinds_of_columns t.schema) ≡ true)
          (option_map (λ (b : Resolved). let t : Typed = record { term = join_term (kinds_of_items given) (sources_of given) b.comprehension; schema = b.schema } in t) x)
      found given h None typed g = tt
      found given h (Some b) typed g =
          join-formed given h b typed (limits (record { term = join_term (kinds_of_items given) (sources_of given) b.comprehension; schema = b.schema }) g)

      by : (o : Option (List MeantItem)) → IfAny EachStands o → option_map_or (λ given. comprehension_kind (schemas_of given) condition emits) o None ≡ None
          → limit_kind (option_and_then (λ given. comprehension_term given condition emits) o) ≡ None
          → IfAny (λ (t : Typed). is_term (source_kinds files earlier) t.term (kinds_of_columns t.schema) ≡ true) (option_and_then (λ given. comprehension_term given condition emits) o)
      by None h e f = tt
      by (Some given) h e f =
          found given h (resolved (scope_of (schemas_of given)) condition emits)
          (resolved-typed (scope_of (schemas_of given)) condition emits (typed-emits (schemas_of given) condition emits e)) f

  still-stand : AllStand files (number + 1) earlier names
  still-stand = record {
    assigned = All-weaker (λ (p : Name × Meant). Stands files number earlier p.1) (λ (p : Name × Meant). Stands files (number + 1) earlier p.1) (λ p h. later-stands files number earlier p.1 h) names.assigned stand.assigned;
    stored = All-weaker (λ (p : Key × Meant). Stands files number earlier p.1) (λ (p : Key × Meant). Stands files (number + 1) earlier p.1) (λ p h. later-stands files number earlier p.1 h) names.stored stand.stored;
  }

  assigned-stand : (name : Name) (t : Typed) → AllStand files (number + 1) (step_of number t ∷ earlier) (with_result number names name t)
  assigned-stand name t = record {
    assigned =
        All-cons (λ (p : Name × Meant). Stands files (number + 1) (step_of number t ∷ earlier) p.1) (name, record { source = source.Result number; schema = t.schema }) names.assigned
        (new-stands files number earlier t)
        (All-weaker (λ (p : Name × Meant). Stands files number earlier p.1) (λ (p : Name × Meant). Stands files (number + 1) (step_of number t ∷ earlier) p.1) (λ p h. behind-stands files number earlier t p.1 h) names.assigned stand.assigned);
    stored = All-weaker (λ (p : Key × Meant). Stands files number earlier p.1) (λ (p : Key × Meant). Stands files (number + 1) (step_of number t ∷ earlier) p.1) (λ p h. behind-stands files number earlier t p.1 h) names.stored stand.stored;
  }

  stored-stand : (key : Key) (m : Meant) → Stands files number earlier m → AllStand files (number + 1) earlier (with_key names key m)
  stored-stand key m h = record {
    assigned = still-stand.assigned;
    stored = All-cons (λ (p : Key × Meant). Stands files (number + 1) earlier p.1) (key, m) names.stored (later-stands files number earlier m h) still-stand.stored;
  }

-- ---- scripts

-- the rest of a script, with its names resolved behind these steps
record Made (files : List File) (last : ℕ) (earlier : List StepTree) (c : CheckedTree) : Type 0 where
  steps : are_steps files last earlier c.steps ≡ true
  stores : (all : List StepTree) → ((k : ℕ) → Has earlier k → Has all k) → ((k : ℕ) → Has c.steps k → Has all k) → list_all (is_store files all) c.stores ≡ true

-- an earlier step is found among all that are before the statement
found-step : (number k : ℕ) (all : List StepTree) → k < number → Has all k
    → is_some (option_map (λ (s : StepTree). kinds_of_columns s.schema) (find (λ (s : StepTree). s.statement == k) (filter (λ (t : StepTree). nat_lt t.statement number) all))) ≡ true
found-step number k [] l h = cc
found-step number k (s ∷ all) l h = by (nat_lt s.statement number) refl (s.statement == k) refl h (found-step number k all l)
  where
    by : (a : Bool) → nat_lt s.statement number ≡ a → (b : Bool) → (s.statement == k) ≡ b → (b || list_any (λ (s : StepTree). s.statement == k) all) ≡ true
        → (Has all k → is_some (option_map (λ (s : StepTree). kinds_of_columns s.schema) (find (λ (s : StepTree). s.statement == k) (filter (λ (t : StepTree). nat_lt t.statement number) all))) ≡ true)
        → is_some (option_map (λ (s : StepTree). kinds_of_columns s.schema) (find (λ (s : StepTree). s.statement == k) (cond a (s ∷ filter (λ (t : StepTree). nat_lt t.statement number) all) (filter (λ (t : StepTree). nat_lt t.statement number) all)))) ≡ true
    by true e true f h rest =
        ap (λ t. is_some (option_map (λ (s : StepTree). kinds_of_columns s.schema) (cond t (Some s) (find (λ (s : StepTree). s.statement == k) (filter (λ (t : StepTree). nat_lt t.statement number) all))))) f
    by true e false f h rest =
        ap (λ t. is_some (option_map (λ (s : StepTree). kinds_of_columns s.schema) (cond t (Some s) (find (λ (s : StepTree). s.statement == k) (filter (λ (t : StepTree). nat_lt t.statement number) all))))) f ∙ rest h
    by false e true f h rest = absurd (grind (arith, nat_tests, e, f, l))
    by false e false f h rest = rest h

store-there : (files : List File) (number : ℕ) (earlier all : List StepTree) (key : Key) (m : Meant) → Stands files number earlier m
    → ((k : ℕ) → Has earlier k → Has all k) → is_store files all (store_of number key m) ≡ true
store-there files number earlier all key m h f = by m.source h.kinds h.known
  where
    by : (o : Source) → source_kinds files earlier o ≡ Some (kinds_of_columns m.schema) → Known number earlier o
        → is_some (source_kinds files (filter (λ (t : StepTree). nat_lt t.statement number) all) o) ≡ true
    by (source.File place) e k = ap is_some e
    by (source.Result i) e k = found-step number i all k.0 (f i k.1)

less-is : (m n : ℕ) → m < n → nat_lt m n ≡ true
less-is m n l = grind (arith, nat_tests, l)

formed : (files : List File) (number : ℕ) (names : Names) (script : List StatementTree) (c : CheckedTree) → Follows files number names script c
    → (last : ℕ) (earlier : List StepTree) → last < number → AllStand files number earlier names → Made files last earlier c
formed files _ _ _ _ (at_end number names) last earlier l stand = record { steps = refl; stores = λ all f g. refl }
formed files _ _ _ _ (a_nothing number names rest c f) last earlier l stand =
    formed files (number + 1) names rest c f last earlier (omega (arith, l)) (still-stand files number earlier names stand)
formed files _ _ _ _ (an_assignment number names name r rest t c typed fit e f) last earlier l stand =
    assigned-made (formed files (number + 1) (with_result number names name t) rest c f number (step_of number t ∷ earlier) (omega arith) (assigned-stand files number earlier names stand name t))
  where
    here : is_term (source_kinds files earlier) t.term (kinds_of_columns t.schema) ≡ true
    here =
        let none = typed-kinds files names r typed in
        subst (IfAny (λ (t : Typed). is_term (source_kinds files earlier) t.term (kinds_of_columns t.schema) ≡ true)) e (term-formed files number earlier names stand r fit none.0 none.1)

    old : (all : List StepTree) → ((k : ℕ) → Has earlier k → Has all k) → ((k : ℕ) → Has (step_of number t ∷ c.steps) k → Has all k)
        → (k : ℕ) (b : Bool) → (number == k) ≡ b → (b || list_any (λ (s : StepTree). s.statement == k) earlier) ≡ true → Has all k
    old all f g k true e h = g k (or_left (number == k) (list_any (λ (s : StepTree). s.statement == k) c.steps) e)
    old all f g k false e h = f k h

    assigned-made : Made files number (step_of number t ∷ earlier) c → Made files last earlier (record { steps = step_of number t ∷ c.steps; stores = c.stores })
    assigned-made made = record {
      steps =
          and_from (nat_lt last number && is_term (source_kinds files earlier) t.term (kinds_of_columns t.schema)) (are_steps files number (step_of number t ∷ earlier) c.steps)
          (and_from (nat_lt last number) (is_term (source_kinds files earlier) t.term (kinds_of_columns t.schema)) (less-is last number l) here) made.steps;
      stores = λ all f g. made.stores all (λ k h. old all f g k (number == k) refl h) (λ k h. g k (or_right (number == k) (list_any (λ (s : StepTree). s.statement == k) c.steps) h));
    }
formed files _ _ _ _ (a_store number names name key rest m c e f) last earlier l stand =
    stored-made (formed files (number + 1) (with_key names key m) rest c f last earlier (omega (arith, l)) (stored-stand files number earlier names stand key m here))
  where
    here : Stands files number earlier m
    here = subst (IfAny (Stands files number earlier)) e (name-stands files number earlier names stand name)

    stored-made : Made files last earlier c → Made files last earlier (record { steps = c.steps; stores = store_of number key m ∷ c.stores })
    stored-made made = record {
      steps = made.steps;
      stores = λ all f g.
          and_from (is_store files all (store_of number key m)) (list_all (is_store files all) c.stores) (store-there files number earlier all key m here f) (made.stores all f g);
    }

pub steps_are_of_the_files : StepsAreOfTheFiles
steps_are_of_the_files files script c forms typed =
    let made = formed files 1 nothing_yet script c (typed-follows files script c forms typed) 0 [] (omega arith)
    (record { assigned = All-nil (λ (p : Name × Meant). Stands files 1 [] p.1); stored = All-nil (λ (p : Key × Meant). Stands files 1 [] p.1) }) in
    and_from (are_steps files 0 [] c.steps) (list_all (is_store files c.steps) c.stores) made.steps (made.stores c.steps (λ k h. cc) (λ k h. h))
