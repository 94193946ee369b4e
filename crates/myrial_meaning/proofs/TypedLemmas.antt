-- The rows of a comprehension have the types of the emitted columns.
use Rattle.std.proofs.Common.{◌≡◌, ◌∙◌, ℕ, ◌+◌, Bool, true, false, cond, Option, Some, None, option_map, List, [], ◌∷◌, ◌++◌, length, map, filter, get_or, refl, sym, ap, subst, arith}
use Rattle.std.proofs.lemmas.List.{map-append, length-map}
use Rattle.std.proofs.lemmas.List.Elements.{All-nil, All-cons, All-head, All-tail, All-append, All-map, All-filter, All-weaker}
use Rattle.std.specs.Prelude.{All, unwrap_or}
use Rattle.std.specs.List.{flat_map, enumerate_from, range_with_len}
use Rattle.rel_base.specs.Each.{each_or_none, put_before}
use Rattle.rel_base.specs.declared.values.Value.TheVariants as value
use Rattle.rel_base.specs.declared.relations.Column.{Column}
use Rattle.rel_base.specs.declared.values.ColType.{ColType}
use Rattle.rel_base.specs.declared.values.ColType.TheVariants as kind
use Rattle.rel_base.specs.Relations.{HasTypes, type_of}
use Rattle.myrial_ast.specs.declared.operators.AggOp.{AggOp}
use Rattle.myrial_ast.specs.declared.operators.AggOp.TheVariants as agg
use Rattle.myrial_ast.specs.declared.operators.BinOp.TheVariants as op
use Rattle.myrial_ast.specs.Trees.{Name, Tree, EmitTree}
use Rattle.myrial_ast.specs.Trees as tree
use Rattle.myrial_ast.specs.Scalars.{Scalar, Lit, At, Not, Neg, Bin, exact_value, value_at}
use Rattle.myrial_ast.specs.Combinations.{Row, Rows, all_hold, candidates, combinations, combined_row, combined_rows, emitted, listed_from}
use Rattle.myrial_ast.specs.Groups.{Kinds, has_aggregate, groups, result_rows}
use Rattle.algebra.proofs.TypeLemmas.{types-of_row, typed-fits, at-mapped}
use Rattle.bag_laws.proofs.TypedGroupLemmas.{result_kind, result_kinds, groups-typed}
use Rattle.myrial_scopes.specs.Scopes.{ItemSchema, ScopeColumn, column_at, columns_of, kind_of, places_under, scalar_of, scope_of, scoped}
use Rattle.myrial_scopes.specs.Emits.{Emit, emit_at, aggregate_kind, aggregated, emit_of_scalar, emit_of_tree, named, emits_of_item, emits_of, numbered_name, schema_of}
use Rattle.myrial_meaning.specs.Meaning.{ItemRelation, items_of, schema_of_item, tables_of}
use Rattle.myrial_meaning.specs.inner.ItemRows.{HasTypedRows}

-- ---- rows of types

-- the types of a row's values
types_of : Row → List ColType
types_of row = map type_of row

-- the value at a place has the type there, past the end as well
type-at : (kinds : List ColType) (row : Row) (place : ℕ) → types_of row ≡ kinds → type_of (value_at row place) ≡ get_or kinds place kind.Int
unfolding types_of
type-at kinds row place e = sym (at-mapped type_of row place _) ∙ ap (λ kinds. get_or kinds place kind.Int) e

-- ---- the rows of the loops

-- the types of the items' columns
kinds_of : List ItemRelation → List ColType
kinds_of items = flat_map (λ (s : ItemRelation). map (λ (column : Column). column.kind) s.table.schema) items

-- they are the types of the columns in scope
column-kinds : (number n : ℕ) (alias : Name) (schema : List Column)
    → map (λ (c : ScopeColumn). c.kind) (map (λ (p : ℕ × Column). scoped number alias p.0 p.1) (enumerate_from n schema)) ≡ map (λ (column : Column). column.kind) schema
column-kinds number n alias [] = refl
column-kinds number n alias (column ∷ schema) = ap (λ (rest : List ColType). column.kind ∷ rest) (column-kinds number (n + 1) alias schema)

scope-kinds-from : (n : ℕ) (items : List ItemRelation)
    → map (λ (c : ScopeColumn). c.kind) (flat_map (λ (p : ℕ × ItemSchema). columns_of p.0 p.1) (enumerate_from n (items_of items))) ≡ kinds_of items
unfolding kinds_of
scope-kinds-from n [] = refl
scope-kinds-from n (s ∷ items) =
    map-append (λ (c : ScopeColumn). c.kind) (columns_of n (schema_of_item s)) (flat_map (λ (p : ℕ × ItemSchema). columns_of p.0 p.1) (enumerate_from (n + 1) (items_of items)))
    ∙ (λ i. column-kinds n 0 s.alias s.table.schema i ++ scope-kinds-from (n + 1) items i)

-- the type of the column at a place in scope
kind-at : (items : List ItemRelation) (place : ℕ) → (column_at (scope_of (items_of items)) place).kind ≡ get_or (kinds_of items) place kind.Int
kind-at items place =
    sym (at-mapped (λ (c : ScopeColumn). c.kind) (scope_of (items_of items)) place _)
    ∙ ap (λ kinds. get_or kinds place kind.Int) (scope-kinds-from 0 items)

types-append : (row next : Row) → types_of (row ++ next) ≡ types_of row ++ types_of next
unfolding types_of
types-append row next = map-append type_of row next

-- each combination of the items' rows has the types of their columns
combinations-typed : (items : List ItemRelation) → All HasTypedRows items
    → All (λ (rows : List Row). types_of (combined_row rows) ≡ kinds_of items) (combinations (tables_of items))
unfolding kinds_of types_of
combinations-typed [] typed = All-cons (λ (rows : List Row). types_of (combined_row rows) ≡ []) [] [] refl (All-nil (λ (rows : List Row). types_of (combined_row rows) ≡ []))
combinations-typed (s ∷ items) typed = each (combinations-typed items (All-tail HasTypedRows s items typed)) s.table.rows (All-head HasTypedRows s items typed)
  where
    each : All (λ (rows : List Row). types_of (combined_row rows) ≡ kinds_of items) (combinations (tables_of items)) → (rows : Rows) → All (HasTypes s.table.schema) rows → All (λ (rows : List Row). types_of (combined_row rows) ≡ kinds_of (s ∷ items)) (flat_map (λ row. map (λ rest. row ∷ rest) (combinations (tables_of items))) rows)
    each others [] all = All-nil (λ (rows : List Row). types_of (combined_row rows) ≡ kinds_of (s ∷ items))
    each others (row ∷ rows) all =
        All-append (λ (rows : List Row). types_of (combined_row rows) ≡ kinds_of (s ∷ items)) (map (λ rest. row ∷ rest) (combinations (tables_of items))) _
        (All-map (λ (rows : List Row). types_of (combined_row rows) ≡ kinds_of (s ∷ items)) (λ rest. row ∷ rest) (combinations (tables_of items))
        (All-weaker (λ (rows : List Row). types_of (combined_row rows) ≡ kinds_of items) (λ rest. types_of (combined_row (row ∷ rest)) ≡ kinds_of (s ∷ items))
        (λ rest e. types-append row (combined_row rest) ∙ (λ i. types-of_row s.table.schema row (All-head (HasTypes s.table.schema) row rows all) i ++ e i))
        (combinations (tables_of items)) others))
        (each others rows (All-tail (HasTypes s.table.schema) row rows all))

-- the value of a scalar has the scalar's type
value-typed : (items : List ItemRelation) (row : Row) → types_of row ≡ kinds_of items → (e : Scalar) → type_of (exact_value e row) ≡ kind_of (scope_of (items_of items)) e
value-typed items row t (Lit v) = refl
value-typed items row t (At place) = type-at (kinds_of items) row place t ∙ sym (kind-at items place)
value-typed items row t (Not e) = refl
value-typed items row t (Neg e) = refl
value-typed items row t (Bin op.Or l r) = refl
value-typed items row t (Bin op.And l r) = refl
value-typed items row t (Bin op.Eq l r) = refl
value-typed items row t (Bin op.Ne l r) = refl
value-typed items row t (Bin op.Lt l r) = refl
value-typed items row t (Bin op.Le l r) = refl
value-typed items row t (Bin op.Gt l r) = refl
value-typed items row t (Bin op.Ge l r) = refl
value-typed items row t (Bin op.Add l r) = refl
value-typed items row t (Bin op.Sub l r) = refl
value-typed items row t (Bin op.Mul l r) = refl

emitted-typed : (items : List ItemRelation) (row : Row) → types_of row ≡ kinds_of items → (es : List Scalar) → types_of (emitted es row) ≡ map (kind_of (scope_of (items_of items))) es
unfolding types_of
emitted-typed items row t [] = refl
emitted-typed items row t (e ∷ es) = λ i. value-typed items row t e i ∷ emitted-typed items row t es i

-- what is listed has the types of what is emitted
listed-typed : (items : List ItemRelation) → All HasTypedRows items → (tests arithmetic es : List Scalar)
    → All (λ row. types_of row ≡ map (kind_of (scope_of (items_of items))) es) (listed_from arithmetic es (candidates tests (tables_of items)))
listed-typed items typed tests arithmetic es =
    All-map (λ row. types_of row ≡ map (kind_of (scope_of (items_of items))) es) (emitted es) (filter (all_hold arithmetic) (candidates tests (tables_of items)))
    (All-weaker (λ row. types_of row ≡ kinds_of items) (λ row. types_of (emitted es row) ≡ map (kind_of (scope_of (items_of items))) es)
    (λ row t. emitted-typed items row t es) (filter (all_hold arithmetic) (candidates tests (tables_of items)))
    (All-filter (all_hold arithmetic) (λ row. types_of row ≡ kinds_of items) (candidates tests (tables_of items))
    (All-filter (all_hold tests) (λ row. types_of row ≡ kinds_of items) (combined_rows (tables_of items))
    (All-map (λ row. types_of row ≡ kinds_of items) combined_row (combinations (tables_of items)) (combinations-typed items typed)))))

-- ---- groups of rows of types

-- ---- groups of rows of types

-- where nothing is aggregated, the types are those of what is emitted
plain-kinds : (kinds : Kinds) (ks : List ColType) → length kinds ≡ length ks → has_aggregate kinds ≡ false → result_kinds kinds ks ≡ ks
plain-kinds [] [] e h = refl
plain-kinds [] (k ∷ ks) e h = absurd (omega (arith, e))
plain-kinds (kind ∷ kinds) [] e h = absurd (omega (arith, e))
plain-kinds (None ∷ kinds) (k ∷ ks) e h = ap (λ (rest : List ColType). k ∷ rest) (plain-kinds kinds ks (omega (arith, e)) h)
plain-kinds (Some op ∷ kinds) (k ∷ ks) e h = absurd (cc)

results-typed : (kinds : Kinds) (ks : List ColType) → length kinds ≡ length ks → (rows : Rows) → All (λ row. types_of row ≡ ks) rows
    → All (λ row. types_of row ≡ result_kinds kinds ks) (result_rows kinds rows)
unfolding types_of
results-typed kinds ks e rows all = by (has_aggregate kinds) refl
  where
    by : (b : Bool) → has_aggregate kinds ≡ b → All (λ row. types_of row ≡ result_kinds kinds ks) (cond b (groups kinds rows) rows)
    by true h = groups-typed kinds ks e rows all
    by false h = All-weaker (λ row. types_of row ≡ ks) (λ row. types_of row ≡ result_kinds kinds ks) (λ row t. t ∙ sym (plain-kinds kinds ks e h)) rows all

-- ---- the types of emitted columns

-- the type of an aggregate is that of its column of groups
aggregate-result : (op : AggOp) (k : ColType) → aggregate_kind op k ≡ result_kind (Some op) k
aggregate-result agg.CountAll k = refl
aggregate-result agg.Count k = refl
aggregate-result agg.Sum k = refl
aggregate-result agg.Min k = refl
aggregate-result agg.Max k = refl

abbrev HasKind : List ScopeColumn → Emit → Type 0
HasKind scope e = e.kind ≡ result_kind e.aggregate (kind_of scope e.scalar)

scalar-kind : (scope : List ScopeColumn) (e : Scalar) → HasKind scope (emit_of_scalar scope e)
scalar-kind scope (Lit v) = refl
scalar-kind scope (At place) = refl
scalar-kind scope (Not e) = refl
scalar-kind scope (Neg e) = refl
scalar-kind scope (Bin op l r) = refl

named-kind : (scope : List ScopeColumn) (name : Option Name) (e : Emit) → HasKind scope e → HasKind scope (named name e)
named-kind scope None e h = h
named-kind scope (Some name) e h = h

scalar-tree : (scope : List ScopeColumn) (e : Tree) (made : Emit) → option_map (emit_of_scalar scope) (scalar_of scope e) ≡ Some made → HasKind scope made
scalar-tree scope e made is = by (scalar_of scope e) is
  where
    by : (found : Option Scalar) → option_map (emit_of_scalar scope) found ≡ Some made → HasKind scope made
    by None k = absurd (cc)
    by (Some s) k = let same : emit_of_scalar scope s ≡ made = cc in subst (HasKind scope) same (scalar-kind scope s)

-- what an expression emits
tree-kind : (scope : List ScopeColumn) (e : Tree) (made : Emit) → emit_of_tree scope e ≡ Some made → HasKind scope made
tree-kind scope (tree.Agg op e) made is = by (scalar_of scope e) is
  where
    by : (found : Option Scalar) → option_map (aggregated scope op) found ≡ Some made → HasKind scope made
    by None k = absurd (cc)
    by (Some s) k = let same : aggregated scope op s ≡ made = cc in subst (HasKind scope) same (aggregate-result op (kind_of scope s))
tree-kind scope (tree.AggAll op) made is = let same : aggregated scope op (Lit (value.Bool true)) ≡ made = cc in subst (HasKind scope) same (aggregate-result op kind.Bool)
tree-kind scope (tree.Lit v) made is = scalar-tree scope (tree.Lit v) made is
tree-kind scope (tree.Col column) made is = scalar-tree scope (tree.Col column) made is
tree-kind scope (tree.Not e) made is = scalar-tree scope (tree.Not e) made is
tree-kind scope (tree.Neg e) made is = scalar-tree scope (tree.Neg e) made is
tree-kind scope (tree.Bin op l r) made is = scalar-tree scope (tree.Bin op l r) made is

-- the columns of an emit item
places-kind : (scope : List ScopeColumn) (places : List ℕ) → All (HasKind scope) (map (emit_at scope) places)
places-kind scope [] = All-nil (HasKind scope)
places-kind scope (place ∷ places) = All-cons (HasKind scope) (emit_at scope place) (map (emit_at scope) places) refl (places-kind scope places)

item-kind : (scope : List ScopeColumn) (item : EmitTree) (made : List Emit) → emits_of_item scope item ≡ Some made → All (HasKind scope) made
item-kind scope tree.All made is =
    let same : map (emit_at scope) (range_with_len 0 (length scope)) ≡ made = cc in subst (λ es. All (HasKind scope) es) same (places-kind scope (range_with_len 0 (length scope)))
item-kind scope (tree.AllOf alias) made is =
    let same : map (emit_at scope) (places_under scope alias) ≡ made = cc in subst (λ es. All (HasKind scope) es) same (places-kind scope (places_under scope alias))
item-kind scope (tree.One e name) made is = by (emit_of_tree scope e) refl is
  where
    by : (found : Option Emit) → emit_of_tree scope e ≡ found → option_map (λ emit. named name emit ∷ []) found ≡ Some made → All (HasKind scope) made
    by None h k = absurd (cc)
    by (Some one) h k =
        let same : named name one ∷ [] ≡ made = cc in
        subst (λ es. All (HasKind scope) es) same (All-cons (HasKind scope) (named name one) [] (named-kind scope name one (tree-kind scope e one h)) (All-nil (HasKind scope)))

lists-kind : (scope : List ScopeColumn) (items : List EmitTree) (lists : List (List Emit)) → each_or_none (emits_of_item scope) items ≡ Some lists
    → All (HasKind scope) (flat_map (λ columns. columns) lists)
lists-kind scope [] lists is = let same : [] ≡ lists = cc in subst (λ ls. All (HasKind scope) (flat_map (λ columns. columns) ls)) same (All-nil (HasKind scope))
lists-kind scope (item ∷ items) lists is =
    by (λ more k. lists-kind scope items more k) (emits_of_item scope item) (each_or_none (emits_of_item scope) items) refl refl is
  where
    by : ((more : List (List Emit)) → each_or_none (emits_of_item scope) items ≡ Some more → All (HasKind scope) (flat_map (λ columns. columns) more))
        → (first : Option (List Emit)) (rest : Option (List (List Emit))) → emits_of_item scope item ≡ first → each_or_none (emits_of_item scope) items ≡ rest
        → put_before first rest ≡ Some lists → All (HasKind scope) (flat_map (λ columns. columns) lists)
    by others None rest h k e = absurd (cc)
    by others (Some one) None h k e = absurd (cc)
    by others (Some one) (Some more) h k e =
        let same : one ∷ more ≡ lists = cc in
        subst (λ ls. All (HasKind scope) (flat_map (λ columns. columns) ls)) same
        (All-append (HasKind scope) one (flat_map (λ columns. columns) more) (item-kind scope item one h) (others more k))

emits-kind : (scope : List ScopeColumn) (items : List EmitTree) (es : List Emit) → emits_of scope items ≡ Some es → All (HasKind scope) es
emits-kind scope items es is = by (each_or_none (emits_of_item scope) items) refl is
  where
    by : (found : Option (List (List Emit))) → each_or_none (emits_of_item scope) items ≡ found → option_map (flat_map (λ columns. columns)) found ≡ Some es → All (HasKind scope) es
    by None h k = absurd (cc)
    by (Some lists) h k = let same : flat_map (λ columns. columns) lists ≡ es = cc in subst (λ es. All (HasKind scope) es) same (lists-kind scope items lists h)

-- the types of the schema
schema-kinds : (n : ℕ) (es : List Emit)
    → map (λ (column : Column). column.kind) (map (λ (p : ℕ × Emit). record { name = unwrap_or p.1.name (numbered_name p.0); kind = p.1.kind }) (enumerate_from n es)) ≡ map (λ (e : Emit). e.kind) es
schema-kinds n [] = refl
schema-kinds n (e ∷ es) = ap (λ (rest : List ColType). e.kind ∷ rest) (schema-kinds (n + 1) es)

emitted-kinds : (scope : List ScopeColumn) (es : List Emit) → All (HasKind scope) es
    → map (λ (e : Emit). e.kind) es ≡ result_kinds (map (λ (e : Emit). e.aggregate) es) (map (kind_of scope) (map (λ (e : Emit). e.scalar) es))
emitted-kinds scope [] all = refl
emitted-kinds scope (e ∷ es) all =
    let first = All-head (HasKind scope) e es all in
    let rest = emitted-kinds scope es (All-tail (HasKind scope) e es all) in
    λ i. first i ∷ rest i

-- the rows of a comprehension have the types of its schema
pub comprehension-typed : (items : List ItemRelation) → All HasTypedRows items → (trees : List EmitTree) (es : List Emit) → emits_of (scope_of (items_of items)) trees ≡ Some es
    → (tests arithmetic : List Scalar)
    → All (HasTypes (schema_of es)) (result_rows (map (λ (e : Emit). e.aggregate) es) (listed_from arithmetic (map (λ (e : Emit). e.scalar) es) (candidates tests (tables_of items))))
unfolding types_of
comprehension-typed items typed trees es is tests arithmetic =
    All-weaker (λ row. types_of row ≡ result_kinds kinds ks) (HasTypes (schema_of es)) (λ row t. typed-fits (schema_of es) row (t ∙ sym own)) (result_rows kinds rows)
    (results-typed kinds ks long rows (listed-typed items typed tests arithmetic (map (λ (e : Emit). e.scalar) es)))
  where
    kinds : Kinds
    kinds = map (λ (e : Emit). e.aggregate) es

    ks : List ColType
    ks = map (kind_of (scope_of (items_of items))) (map (λ (e : Emit). e.scalar) es)

    rows : Rows
    rows = listed_from arithmetic (map (λ (e : Emit). e.scalar) es) (candidates tests (tables_of items))

    long : length kinds ≡ length ks
    long =
        length-map es (λ (e : Emit). e.aggregate)
        ∙ sym (length-map (map (λ (e : Emit). e.scalar) es) (kind_of (scope_of (items_of items))) ∙ length-map es (λ (e : Emit). e.scalar))

    own : map (λ (column : Column). column.kind) (schema_of es) ≡ result_kinds kinds ks
    own = schema-kinds 0 es ∙ emitted-kinds (scope_of (items_of items)) es (emits-kind (scope_of (items_of items)) trees es is)

-- rows of one schema have the types of another with the same types
pub typed-by : (schema others : List Column) → map (λ (column : Column). column.kind) schema ≡ map (λ (column : Column). column.kind) others
    → (rows : Rows) → All (HasTypes others) rows → All (HasTypes schema) rows
typed-by schema others same rows all =
    All-weaker (HasTypes others) (HasTypes schema) (λ row t. typed-fits schema row (types-of_row others row t ∙ sym same)) rows all
