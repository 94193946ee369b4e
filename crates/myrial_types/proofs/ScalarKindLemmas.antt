-- The types of what a typed comprehension emits: those of a tree are those of its scalar, and each emitted column has its own.
use Rattle.std.proofs.Common.{◌≡◌, ◌∙◌, ℕ, zero, suc, ◌+◌, ◌<◌, ◌≤◌, Bool, true, false, cond, List, [], ◌∷◌, ◌++◌, map, length, refl, ap, arith, Option, Some, None}
use Rattle.std.specs.Prelude.{is_none, is_some, option_map, option_and_then, slice_get, slice_index_or, unwrap_or, ◌&&◌, ⊤}
use Rattle.std.specs.List.{enumerate_from, flat_map, list_any, list_all, range_with_len, zip}
use Rattle.std.specs.Cmp.Lexicographic.{pointwise}
use Rattle.std.proofs.lemmas.List.{length-map}
use Rattle.std.proofs.lemmas.Bool.{and_from, or_parts}
use Rattle.rel_base.specs.Each.{each_or_none, put_before}
use Rattle.rel_base.specs.Relations.{same_type}
use Rattle.rel_base.specs.declared.relations.Column.{Column}
use Rattle.rel_base.specs.declared.values.ColType.{ColType}
use Rattle.rel_base.specs.declared.values.ColType.TheVariants as kind
use Rattle.rel_base.specs.declared.values.Value.TheVariants as value
use Rattle.myrial_ast.specs.declared.operators.BinOp.{BinOp}
use Rattle.myrial_ast.specs.declared.operators.BinOp.TheVariants as op
use Rattle.myrial_ast.specs.declared.operators.AggOp.{AggOp}
use Rattle.myrial_ast.specs.declared.operators.AggOp.TheVariants as agg
use Rattle.myrial_ast.specs.Trees.{Name, Tree, EmitTree}
use Rattle.myrial_ast.specs.Trees as tree
use Rattle.myrial_ast.specs.Scalars.{Scalar, Lit, At, Not, Neg, Bin, is_arithmetic}
use Rattle.myrial_scopes.specs.Scopes.{ScopeColumn, column_at, kind_of, place_of, places_under, same_name, scalar_of}
use Rattle.myrial_scopes.specs.Emits.{Emit, aggregate_kind, aggregated, emit_at, emit_of_scalar, emit_of_tree, emits_of_item, named, numbered_name}
use Rattle.algebra.specs.ShapeConditions.{is_kind, kind_in, kind_of_op, where_both}
use Rattle.algebra.specs.Conditions.{emitted_kind, kinds_of_columns}
use Rattle.myrial_types.specs.Kinds.{aggregate_type, emitted_tree, tree_kind}
use Rattle.algebra.proofs.TypeLemmas.{same_type-itself}
use Rattle.myrial_types.proofs.RangeLemmas.{AllBelow, place-below, places-below}
use Rattle.myrial_types.proofs.ValueLemmas.{IfAny}

-- ---- a tree and its scalar

module _ (scope : List ScopeColumn) where
  abbrev pub kinds_in_scope : List ColType
  kinds_in_scope = map (λ (c : ScopeColumn). c.kind) scope

  pub kind-same : (e : Tree) → IfAny (λ s. kind_in kinds_in_scope s ≡ tree_kind scope e) (scalar_of scope e)
  kind-same (tree.Lit v) = refl
  kind-same (tree.Col c) = by (place_of scope c) (place-below scope c)
    where
      at : (columns : List ScopeColumn) (place : ℕ) → place < length columns
          → slice_get (map (λ (c : ScopeColumn). c.kind) columns) place ≡ Some (column_at columns place).kind
      at [] place l = absurd (omega (arith, l))
      at (x ∷ xs) zero l = refl
      at (x ∷ xs) (suc place) l = at xs place (omega (arith, l))

      by : (o : Option ℕ) → ((place : ℕ) → o ≡ Some place → place < length scope)
          → IfAny (λ s. kind_in (map (λ (c : ScopeColumn). c.kind) scope) s ≡ option_map (λ place. (column_at scope place).kind) o) (option_map At o)
      by None h = tt
      by (Some place) h = at scope place (h place refl)
  kind-same (tree.Not e) = by (scalar_of scope e) (kind-same e)
    where
      by : (o : Option Scalar) → IfAny (λ s. kind_in (map (λ (c : ScopeColumn). c.kind) scope) s ≡ tree_kind scope e) o
          → IfAny (λ s. kind_in (map (λ (c : ScopeColumn). c.kind) scope) s ≡ where_both kind.Bool kind.Bool (tree_kind scope e) (tree_kind scope e)) (option_map Not o)
      by None h = tt
      by (Some s) h = ap (λ k. where_both kind.Bool kind.Bool k k) h
  kind-same (tree.Neg e) = by (scalar_of scope e) (kind-same e)
    where
      by : (o : Option Scalar) → IfAny (λ s. kind_in (map (λ (c : ScopeColumn). c.kind) scope) s ≡ tree_kind scope e) o
          → IfAny (λ s. kind_in (map (λ (c : ScopeColumn). c.kind) scope) s ≡ where_both kind.Int kind.Int (tree_kind scope e) (tree_kind scope e)) (option_map Neg o)
      by None h = tt
      by (Some s) h = ap (λ k. where_both kind.Int kind.Int k k) h
  kind-same (tree.Bin o l r) = by (scalar_of scope l) (scalar_of scope r) (kind-same l) (kind-same r)
    where
      by : (a b : Option Scalar) → IfAny (λ s. kind_in (map (λ (c : ScopeColumn). c.kind) scope) s ≡ tree_kind scope l) a → IfAny (λ s. kind_in (map (λ (c : ScopeColumn). c.kind) scope) s ≡ tree_kind scope r) b
          → IfAny (λ s. kind_in (map (λ (c : ScopeColumn). c.kind) scope) s ≡ kind_of_op o (tree_kind scope l) (tree_kind scope r)) (option_and_then (λ left. option_map (λ right. Bin o left right) b) a)
      by None b g h = tt
      by (Some s) None g h = tt
      by (Some s) (Some t) g h = ap (λ k. kind_of_op o k (kind_in (map (λ (c : ScopeColumn). c.kind) scope) t)) g ∙ ap (kind_of_op o (tree_kind scope l)) h
  kind-same (tree.Agg o e) = tt
  kind-same (tree.AggAll o) = tt

-- ---- what is emitted

given-kind : (given wanted : ColType) (a b : Option ColType) (k : ColType) → where_both given wanted a b ≡ Some k → given ≡ k
given-kind given wanted a b k e = by (is_kind wanted a && is_kind wanted b) e
  where
    by : (t : Bool) → cond t (Some given) None ≡ Some k → given ≡ k
    by true e = cc
    by false e = cc

-- the type that a scalar has is the one that its column gets
pub kind-of : (scope : List ScopeColumn) (s : Scalar) (k : ColType) → kind_in (kinds_in_scope scope) s ≡ Some k → kind_of scope s ≡ k
kind-of scope (Lit v) k e = cc
kind-of scope (At c) k e = at scope c e
  where
    at : (columns : List ScopeColumn) (c : ℕ) → slice_get (map (λ (c : ScopeColumn). c.kind) columns) c ≡ Some k → (slice_index_or columns c (record { item = 0; alias = []; place = 0; name = []; kind = kind.Int })).kind ≡ k
    at [] c e = cc
    at (x ∷ xs) zero e = cc
    at (x ∷ xs) (suc c) e = at xs c e
kind-of scope (Not s) k e = given-kind kind.Bool kind.Bool (kind_in (kinds_in_scope scope) s) (kind_in (kinds_in_scope scope) s) k e
kind-of scope (Neg s) k e = given-kind kind.Int kind.Int (kind_in (kinds_in_scope scope) s) (kind_in (kinds_in_scope scope) s) k e
kind-of scope (Bin o l r) k e = by o (kind_in (kinds_in_scope scope) l) (kind_in (kinds_in_scope scope) r) e
  where
    compared : (a b : Option ColType) → option_and_then (λ x. where_both kind.Bool x a b) a ≡ Some k → kind.Bool ≡ k
    compared None b e = cc
    compared (Some x) b e = given-kind kind.Bool x (Some x) b k e

    by : (o : BinOp) (a b : Option ColType) → kind_of_op o a b ≡ Some k → (cond (is_arithmetic o) kind.Int kind.Bool) ≡ k
    by op.Or a b e = given-kind kind.Bool kind.Bool a b k e
    by op.And a b e = given-kind kind.Bool kind.Bool a b k e
    by op.Add a b e = given-kind kind.Int kind.Int a b k e
    by op.Sub a b e = given-kind kind.Int kind.Int a b k e
    by op.Mul a b e = given-kind kind.Int kind.Int a b k e
    by op.Eq a b e = compared a b e
    by op.Ne a b e = compared a b e
    by op.Lt a b e = compared a b e
    by op.Le a b e = compared a b e
    by op.Gt a b e = compared a b e
    by op.Ge a b e = compared a b e

-- an emitted column has its type
abbrev pub HasType : List ScopeColumn → Emit → Type 0
HasType scope em = (is_some (kind_in (kinds_in_scope scope) em.scalar) ≡ true) × (is_kind em.kind (emitted_kind em.aggregate (kind_in (kinds_in_scope scope) em.scalar)) ≡ true)

scalar-type : (scope : List ScopeColumn) (s : Scalar) → is_some (kind_in (kinds_in_scope scope) s) ≡ true → is_kind (kind_of scope s) (kind_in (kinds_in_scope scope) s) ≡ true
scalar-type scope s e = by (kind_in (kinds_in_scope scope) s) refl e
  where
    by : (o : Option ColType) → kind_in (kinds_in_scope scope) s ≡ o → is_some o ≡ true → is_kind (kind_of scope s) o ≡ true
    by None f e = e
    by (Some k) f e = ap (λ x. same_type x k) (kind-of scope s k f) ∙ same_type-itself k

emit_of_scalar-type : (scope : List ScopeColumn) (s : Scalar) → is_some (kind_in (kinds_in_scope scope) s) ≡ true → HasType scope (emit_of_scalar scope s)
emit_of_scalar-type scope (At place) e = (e, scalar-type scope (At place) e)
emit_of_scalar-type scope (Lit v) e = (e, scalar-type scope (Lit v) e)
emit_of_scalar-type scope (Not s) e = (e, scalar-type scope (Not s) e)
emit_of_scalar-type scope (Neg s) e = (e, scalar-type scope (Neg s) e)
emit_of_scalar-type scope (Bin o l r) e = (e, scalar-type scope (Bin o l r) e)

aggregated-type : (scope : List ScopeColumn) (o : AggOp) (s : Scalar) → is_some (aggregate_type o (kind_in (kinds_in_scope scope) s)) ≡ true → HasType scope (aggregated scope o s)
aggregated-type scope o s e = by o (kind_in (kinds_in_scope scope) s) refl e
  where
    summed : (k : ColType) → is_some (where_both kind.Int kind.Int (Some k) (Some k)) ≡ true → is_kind kind.Int (where_both kind.Int kind.Int (Some k) (Some k)) ≡ true
    summed kind.Int e = refl
    summed kind.Str e = e
    summed kind.Bool e = e

    by : (o : AggOp) (x : Option ColType) → kind_in (kinds_in_scope scope) s ≡ x → is_some (aggregate_type o x) ≡ true
        → (is_some x ≡ true) × (is_kind (aggregate_kind o (kind_of scope s)) (emitted_kind (Some o) x) ≡ true)
    by agg.CountAll None f e = cc
    by agg.CountAll (Some k) f e = (refl, refl)
    by agg.Count None f e = cc
    by agg.Count (Some k) f e = (refl, refl)
    by agg.Sum None f e = cc
    by agg.Sum (Some k) f e = (refl, summed k e)
    by agg.Min None f e = cc
    by agg.Min (Some k) f e = (refl, ap (λ y. same_type y k) (kind-of scope s k f) ∙ same_type-itself k)
    by agg.Max None f e = cc
    by agg.Max (Some k) f e = (refl, ap (λ y. same_type y k) (kind-of scope s k f) ∙ same_type-itself k)

-- a typed emit item is a column of its type
plain-type : (scope : List ScopeColumn) (e : Tree) → is_some (tree_kind scope e) ≡ true → IfAny (HasType scope) (option_map (emit_of_scalar scope) (scalar_of scope e))
plain-type scope e h = by (scalar_of scope e) (kind-same scope e)
  where
    by : (x : Option Scalar) → IfAny (λ s. kind_in (kinds_in_scope scope) s ≡ tree_kind scope e) x → IfAny (HasType scope) (option_map (emit_of_scalar scope) x)
    by None k = tt
    by (Some s) k = emit_of_scalar-type scope s (ap is_some k ∙ h)

pub emit-type : (scope : List ScopeColumn) (e : Tree) → is_some (tree_kind scope e) ≡ true → IfAny (HasType scope) (emit_of_tree scope e)
emit-type scope (tree.Agg o e) h = by (scalar_of scope e) (kind-same scope e)
  where
    by : (x : Option Scalar) → IfAny (λ s. kind_in (kinds_in_scope scope) s ≡ tree_kind scope e) x → IfAny (HasType scope) (option_map (aggregated scope o) x)
    by None k = tt
    by (Some s) k = aggregated-type scope o s (ap (λ y. is_some (aggregate_type o y)) k ∙ h)
emit-type scope (tree.AggAll o) h = aggregated-type scope o (Lit (value.Bool true)) h
emit-type scope (tree.Lit v) h = emit_of_scalar-type scope (Lit v) h
emit-type scope (tree.Col c) h = plain-type scope (tree.Col c) h
emit-type scope (tree.Not e) h = plain-type scope (tree.Not e) h
emit-type scope (tree.Neg e) h = plain-type scope (tree.Neg e) h
emit-type scope (tree.Bin o l r) h = plain-type scope (tree.Bin o l r) h

-- ---- lists of columns

abbrev pub EachTyped : List ScopeColumn → List Emit → Type 0
EachTyped scope [] = ⊤
EachTyped scope (e ∷ es) = HasType scope e × EachTyped scope es

typed-append : (scope : List ScopeColumn) (xs ys : List Emit) → EachTyped scope xs → EachTyped scope ys → EachTyped scope (xs ++ ys)
typed-append scope [] ys h k = k
typed-append scope (x ∷ xs) ys h k = (h.0, typed-append scope xs ys h.1 k)

at-type : (scope : List ScopeColumn) (place : ℕ) → place < length scope → HasType scope (emit_at scope place)
at-type scope place l = by (kind_in (kinds_in_scope scope) (At place)) refl (has (map (λ (c : ScopeColumn). c.kind) scope) place (omega (arith, l, length-map scope (λ (c : ScopeColumn). c.kind))))
  where
    has : (xs : List ColType) (i : ℕ) → i < length xs → is_some (slice_get xs i) ≡ true
    has [] i l = absurd (omega (arith, l))
    has (x ∷ xs) zero l = refl
    has (x ∷ xs) (suc i) l = has xs i (omega (arith, l))

    by : (o : Option ColType) → kind_in (kinds_in_scope scope) (At place) ≡ o → is_some o ≡ true → (is_some o ≡ true) × (is_kind (column_at scope place).kind o ≡ true)
    by None f e = cc
    by (Some k) f e = (refl, ap (λ x. same_type x k) (kind-of scope (At place) k f) ∙ same_type-itself k)

all-at : (scope : List ScopeColumn) (places : List ℕ) → AllBelow (length scope) places → EachTyped scope (map (emit_at scope) places)
all-at scope [] h = tt
all-at scope (p ∷ ps) h = (at-type scope p h.0, all-at scope ps h.1)

range-below : (end a n : ℕ) → a + n ≤ end → AllBelow end (range_with_len a n)
range-below end a zero l = tt
range-below end a (suc n) l = (omega (arith, l), range-below end (a + 1) n (omega (arith, l)))

typed-none : {X : Type 0} (o : Option X) → is_none o ≡ false → is_some o ≡ true
typed-none None e = cc
typed-none (Some x) e = refl

pub emits-typed : (scope : List ScopeColumn) (emits : List EmitTree) → list_any (λ e. is_none (tree_kind scope e)) (flat_map emitted_tree emits) ≡ false
    → IfAny (λ (ess : List (List Emit)). EachTyped scope (flat_map (λ columns. columns) ess)) (each_or_none (emits_of_item scope) emits)
emits-typed scope [] h = tt
emits-typed scope (tree.All ∷ emits) h = by (each_or_none (emits_of_item scope) emits) (emits-typed scope emits h)
  where
    by : (o : Option (List (List Emit))) → IfAny (λ (ess : List (List Emit)). EachTyped scope (flat_map (λ columns. columns) ess)) o
        → IfAny (λ (ess : List (List Emit)). EachTyped scope (flat_map (λ columns. columns) ess)) (put_before (Some (map (emit_at scope) (range_with_len 0 (length scope)))) o)
    by None k = tt
    by (Some ess) k = typed-append scope (map (emit_at scope) (range_with_len 0 (length scope))) (flat_map (λ columns. columns) ess) (all-at scope (range_with_len 0 (length scope)) (range-below (length scope) 0 (length scope) (omega arith))) k
emits-typed scope (tree.AllOf alias ∷ emits) h = by (each_or_none (emits_of_item scope) emits) (emits-typed scope emits h)
  where
    by : (o : Option (List (List Emit))) → IfAny (λ (ess : List (List Emit)). EachTyped scope (flat_map (λ columns. columns) ess)) o
        → IfAny (λ (ess : List (List Emit)). EachTyped scope (flat_map (λ columns. columns) ess)) (put_before (Some (map (emit_at scope) (places_under scope alias))) o)
    by None k = tt
    by (Some ess) k =
        typed-append scope (map (emit_at scope) (places_under scope alias)) (flat_map (λ columns. columns) ess)
        (all-at scope (places_under scope alias) (places-below (λ place (c : ScopeColumn). same_name c.alias alias) (length scope) 0 scope (omega arith))) k
emits-typed scope (tree.One e name ∷ emits) h =
    let apart = or_parts (is_none (tree_kind scope e)) (list_any (λ e. is_none (tree_kind scope e)) (flat_map emitted_tree emits)) h in
    by (emit_of_tree scope e) (emit-type scope e (typed-none (tree_kind scope e) apart.0)) (each_or_none (emits_of_item scope) emits) (emits-typed scope emits apart.1)
  where
    under : (n : Option Name) (em : Emit) → HasType scope em → HasType scope (named n em)
    under None em t = t
    under (Some n) em t = t

    by : (x : Option Emit) → IfAny (HasType scope) x → (o : Option (List (List Emit))) → IfAny (λ (ess : List (List Emit)). EachTyped scope (flat_map (λ columns. columns) ess)) o
        → IfAny (λ (ess : List (List Emit)). EachTyped scope (flat_map (λ columns. columns) ess)) (put_before (option_map (λ emit. named name emit ∷ []) x) o)
    by None t o k = tt
    by (Some em) t None k = tt
    by (Some em) t (Some ess) k = (under name em t, k)

-- ---- columns and emits

pub schema-kinds : (n : ℕ) (es : List Emit)
    → kinds_of_columns (map (λ (p : ℕ × Emit). let c : Column = record { name = unwrap_or p.1.name (numbered_name p.0); kind = p.1.kind } in c) (enumerate_from n es)) ≡ map (λ (e : Emit). e.kind) es
schema-kinds n [] = refl
schema-kinds n (e ∷ es) = ap (λ ks. e.kind ∷ ks) (schema-kinds (n + 1) es)

pub some-kinds : (scope : List ScopeColumn) (es : List Emit) → EachTyped scope es → list_all (λ e. is_some (kind_in (kinds_in_scope scope) e)) (map (λ (e : Emit). e.scalar) es) ≡ true
some-kinds scope [] h = refl
some-kinds scope (e ∷ es) h = and_from (is_some (kind_in (kinds_in_scope scope) e.scalar)) (list_all (λ e. is_some (kind_in (kinds_in_scope scope) e)) (map (λ (e : Emit). e.scalar) es)) h.0.0 (some-kinds scope es h.1)

pub group-columns : (scope : List ScopeColumn) (es : List Emit) → EachTyped scope es
    → pointwise (λ (p : Option AggOp × Scalar) k. is_kind k (emitted_kind p.0 (kind_in (kinds_in_scope scope) p.1))) (zip (map (λ (e : Emit). e.aggregate) es) (map (λ (e : Emit). e.scalar) es)) (map (λ (e : Emit). e.kind) es) ≡ true
group-columns scope [] h = refl
group-columns scope (e ∷ es) h =
    and_from (is_kind e.kind (emitted_kind e.aggregate (kind_in (kinds_in_scope scope) e.scalar)))
    (pointwise (λ (p : Option AggOp × Scalar) k. is_kind k (emitted_kind p.0 (kind_in (kinds_in_scope scope) p.1))) (zip (map (λ (e : Emit). e.aggregate) es) (map (λ (e : Emit). e.scalar) es)) (map (λ (e : Emit). e.kind) es))
    h.0.1 (group-columns scope es h.1)

pub join-columns : (scope : List ScopeColumn) (es : List Emit) → EachTyped scope es → list_any is_some (map (λ (e : Emit). e.aggregate) es) ≡ false
    → pointwise (λ e k. is_kind k (kind_in (kinds_in_scope scope) e)) (map (λ (e : Emit). e.scalar) es) (map (λ (e : Emit). e.kind) es) ≡ true
join-columns scope [] h none = refl
join-columns scope (e ∷ es) h none =
    let apart = or_parts (is_some e.aggregate) (list_any is_some (map (λ (e : Emit). e.aggregate) es)) none in
    and_from (is_kind e.kind (kind_in (kinds_in_scope scope) e.scalar))
    (pointwise (λ e k. is_kind k (kind_in (kinds_in_scope scope) e)) (map (λ (e : Emit). e.scalar) es) (map (λ (e : Emit). e.kind) es))
    (by e.aggregate apart.0 h.0.1) (join-columns scope es h.1 apart.1)
  where
    by : (a : Option AggOp) → is_some a ≡ false → is_kind e.kind (emitted_kind a (kind_in (kinds_in_scope scope) e.scalar)) ≡ true → is_kind e.kind (kind_in (kinds_in_scope scope) e.scalar) ≡ true
    by None f g = g
    by (Some a) f g = cc
