-- What is known stands for rows of its columns' types.
use Rattle.std.proofs.Common.{◌≡◌, ◌∙◌, ℕ, zero, suc, ◌==◌, Bool, true, false, cond, Option, Some, None, List, [], ◌∷◌, ◌++◌, length, map, filter, get_or, refl, sym, ap, subst, arith}
use Rattle.std.specs.Prelude.{All, IsTrue, ⊤, ◌&&◌, find, fold, not, option_and_then, option_map, slice_get, slice_index_or, unwrap_or, nat_lt}
use Rattle.std.specs.List.{flat_map, zip}
use Rattle.std.specs.Cmp.Lexicographic.{pointwise}
use Rattle.std.proofs.lemmas.Bool.{eqb-true}
use Rattle.std.proofs.lemmas.List.{map-append, length-map}
use Rattle.std.proofs.lemmas.List.Elements.{All-nil, All-cons, All-head, All-tail, All-append, All-map, All-filter, All-weaker}
use Rattle.rel_base.specs.declared.values.ColType.{ColType}
use Rattle.rel_base.specs.declared.values.ColType.TheVariants as kind
use Rattle.rel_base.specs.Keys.{File}
use Rattle.rel_base.specs.Relations.{HasTypes, type_of}
use Rattle.myrial_ast.specs.declared.operators.AggOp.{AggOp}
use Rattle.myrial_ast.specs.declared.operators.AggOp.TheVariants as agg
use Rattle.myrial_ast.specs.declared.operators.BinOp.{BinOp}
use Rattle.myrial_ast.specs.declared.operators.BinOp.TheVariants as op
use Rattle.myrial_ast.specs.Scalars.{Scalar, Lit, At, Not, Neg, Bin, exact_value}
use Rattle.myrial_ast.specs.Bags.{has_row, distinct}
use Rattle.myrial_ast.specs.Combinations.{Row, Rows, all_hold, combinations, combined_row, combined_rows, emitted}
use Rattle.myrial_ast.specs.Groups.{Kinds, groups}
use Rattle.bag_laws.proofs.TypedGroupLemmas.{All-distinct, AreOf, IsOf, result_kind, result_kinds, groups-typed}
use Rattle.algebra.specs.declared.terms.Source.{Source}
use Rattle.algebra.specs.declared.terms.Source.TheVariants as source
use Rattle.algebra.specs.Trees.{AtomTree, Shape, TermTree, Same, Empty, UnionAll, Diff, Distinct, Join, Group, StepTree, CheckedTree}
use Rattle.algebra.specs.Shapes.{tests_of, ties_of, tie_test, candidates_of, listed_of}
use Rattle.algebra.specs.ShapeConditions.{is_kind, where_both, kind_of_op, kind_in, kinds_of, is_shape}
use Rattle.algebra.specs.Conditions.{is_of, kinds_of_columns, source_kinds, has_kinds, emitted_kind, emits_columns, is_term, are_steps}
use Rattle.algebra.specs.Meanings.{term_rows}
use Rattle.algebra.specs.Rewriting.{AreTyped}
use Rattle.algebra.proofs.ShapeLemmas.{both}
use Rattle.algebra.proofs.TypeLemmas.{same_type-equal, same_kinds-equal, types-of_row, typed-fits, at-mapped}
use Rattle.placement.specs.Layouts.{PlacedRelation, Placing, placed_nothing, placed_files, placed_source, placed_step, placed_steps}
use Rattle.placement.proofs.WidthLemmas.{three}
use Rattle.placement.proofs.ScriptLemmas.{checked-steps, steps-IsPlaced, found-IsPlaced}
use Rattle.run_laws.specs.Values.{meant, MeantArePlaced}

-- ---- values

-- the type of a scalar's value over columns of these types, whatever it reads
abbrev op_kind : BinOp → ColType
op_kind op.Add = kind.Int
op_kind op.Sub = kind.Int
op_kind op.Mul = kind.Int
op_kind _ = kind.Bool

abbrev value_kind : List ColType → Scalar → ColType
value_kind kinds (Lit v) = type_of v
value_kind kinds (At c) = slice_index_or kinds c kind.Int
value_kind kinds (Not e) = kind.Bool
value_kind kinds (Neg e) = kind.Int
value_kind kinds (Bin o l r) = op_kind o

value-typed : (kinds : List ColType) (row : Row) → map type_of row ≡ kinds → (e : Scalar) → type_of (exact_value e row)
    ≡ value_kind kinds e
value-typed kinds row t (Lit v) = refl
value-typed kinds row t (At place) = sym (at-mapped type_of row place _) ∙ ap (λ kinds. get_or kinds place kind.Int) t
value-typed kinds row t (Not e) = refl
value-typed kinds row t (Neg e) = refl
value-typed kinds row t (Bin op.Or l r) = refl
value-typed kinds row t (Bin op.And l r) = refl
value-typed kinds row t (Bin op.Eq l r) = refl
value-typed kinds row t (Bin op.Ne l r) = refl
value-typed kinds row t (Bin op.Lt l r) = refl
value-typed kinds row t (Bin op.Le l r) = refl
value-typed kinds row t (Bin op.Gt l r) = refl
value-typed kinds row t (Bin op.Ge l r) = refl
value-typed kinds row t (Bin op.Add l r) = refl
value-typed kinds row t (Bin op.Sub l r) = refl
value-typed kinds row t (Bin op.Mul l r) = refl

-- a type that is found where a test holds
given-kind : (b : Bool) (given k : ColType) → cond b (Some given) None ≡ Some k → given ≡ k
given-kind true given k e = cc
given-kind false given k e = absurd (cc)

compared-kind : (a b : Option ColType) (k : ColType) → option_and_then (λ k. where_both kind.Bool k a b) a ≡ Some k → kind.Bool ≡ k
compared-kind (Some j) b k e = given-kind (is_kind j (Some j) && is_kind j b) kind.Bool k e
compared-kind None b k e = absurd (cc)

column-kind : (kinds : List ColType) (c : ℕ) (k : ColType) → slice_get kinds c ≡ Some k → slice_index_or kinds c kind.Int ≡ k
column-kind [] c k e = absurd (cc)
column-kind (j ∷ kinds) zero k e = cc
column-kind (j ∷ kinds) (suc c) k e = column-kind kinds c k e

both-kind : (given wanted : ColType) (a b : Option ColType) (k : ColType) → where_both given wanted a b ≡ Some k → given ≡ k
both-kind given wanted a b k e = given-kind (is_kind wanted a && is_kind wanted b) given k e

op-kind : (o : BinOp) (a b : Option ColType) (k : ColType) → kind_of_op o a b ≡ Some k → op_kind o ≡ k
op-kind op.Or a b k e = both-kind kind.Bool kind.Bool a b k e
op-kind op.And a b k e = both-kind kind.Bool kind.Bool a b k e
op-kind op.Eq a b k e = compared-kind a b k e
op-kind op.Ne a b k e = compared-kind a b k e
op-kind op.Lt a b k e = compared-kind a b k e
op-kind op.Le a b k e = compared-kind a b k e
op-kind op.Gt a b k e = compared-kind a b k e
op-kind op.Ge a b k e = compared-kind a b k e
op-kind op.Add a b k e = both-kind kind.Int kind.Int a b k e
op-kind op.Sub a b k e = both-kind kind.Int kind.Int a b k e
op-kind op.Mul a b k e = both-kind kind.Int kind.Int a b k e

-- the type that a scalar is found to have is that of its values
found-kind : (kinds : List ColType) (e : Scalar) (k : ColType) → kind_in kinds e ≡ Some k → value_kind kinds e ≡ k
found-kind kinds (Lit v) k e = cc
found-kind kinds (At c) k e = column-kind kinds c k e
found-kind kinds (Not f) k e = both-kind kind.Bool kind.Bool (kind_in kinds f) (kind_in kinds f) k e
found-kind kinds (Neg f) k e = both-kind kind.Int kind.Int (kind_in kinds f) (kind_in kinds f) k e
found-kind kinds (Bin o l r) k e = op-kind o (kind_in kinds l) (kind_in kinds r) k e

scalar-kind : (kinds : List ColType) (e : Scalar) (k : ColType) → is_kind k (kind_in kinds e) ≡ true → value_kind kinds e ≡ k
scalar-kind kinds e k h = by (kind_in kinds e) refl h
  where
    by : (found : Option ColType) → kind_in kinds e ≡ found → is_kind k found ≡ true → value_kind kinds e ≡ k
    by (Some j) is g = found-kind kinds e j is ∙ sym (same_type-equal k j g)
    by None is g = absurd (cc)

emits-kinds : (kinds : List ColType) (emits : List Scalar) (columns : List ColType)
    → pointwise (λ e k. is_kind k (kind_in kinds e)) emits columns ≡ true
    → map (value_kind kinds) emits ≡ columns
emits-kinds kinds [] [] h = refl
emits-kinds kinds [] (k ∷ columns) h = absurd (cc)
emits-kinds kinds (e ∷ emits) [] h = absurd (cc)
emits-kinds kinds (e ∷ emits) (k ∷ columns) h =
    let parts = both (is_kind k (kind_in kinds e)) (pointwise (λ e k. is_kind k (kind_in kinds e)) emits columns) h in
    let first = scalar-kind kinds e k parts.0 in
    let others = emits-kinds kinds emits columns parts.1 in
    λ i. first i ∷ others i

-- ---- joins

-- tables, each of an atom's types
abbrev AreOfAtoms : List AtomTree → List Rows → Type 0
AreOfAtoms [] [] = ⊤
AreOfAtoms (a ∷ atoms) (rows ∷ tables) = AreOf a.kinds rows × AreOfAtoms atoms tables
AreOfAtoms _ _ = ⊥

abbrev kinds_of_atoms : List AtomTree → List ColType
kinds_of_atoms atoms = flat_map (λ (a : AtomTree). a.kinds) atoms

abbrev Combines : List AtomTree → List Row → Type 0
Combines atoms rows = map type_of (combined_row rows) ≡ kinds_of_atoms atoms

combinations-typed : (atoms : List AtomTree) (tables : List Rows) → AreOfAtoms atoms tables
    → All (Combines atoms) (combinations tables)
combinations-typed [] [] typed = All-cons (Combines []) [] [] refl (All-nil (Combines []))
combinations-typed [] (rows ∷ tables) typed = absurd typed
combinations-typed (a ∷ atoms) [] typed = absurd typed
combinations-typed (a ∷ atoms) (rows ∷ tables) typed = each (combinations-typed atoms tables typed.1) rows typed.0
  where
    each : All (Combines atoms) (combinations tables) → (rows : Rows) → AreOf a.kinds rows
        → All (Combines (a ∷ atoms)) (flat_map (λ row. map (λ rest. row ∷ rest) (combinations tables)) rows)
    each others [] all = All-nil (Combines (a ∷ atoms))
    each others (row ∷ rows) all =
        All-append (Combines (a ∷ atoms)) (map (λ rest. row ∷ rest) (combinations tables)) _
        (All-map (Combines (a ∷ atoms)) (λ rest. row ∷ rest) (combinations tables)
        (All-weaker (Combines atoms) (λ rest. Combines (a ∷ atoms) (row ∷ rest))
        (λ rest e. map-append type_of row (combined_row rest)
        ∙ (λ i. All-head (λ (row : Row). map type_of row ≡ a.kinds) row rows all i ++ e i))
        (combinations tables) others))
        (each others rows (All-tail (λ (row : Row). map type_of row ≡ a.kinds) row rows all))

emitted-typed : (kinds : List ColType) (row : Row) → map type_of row ≡ kinds → (emits : List Scalar)
    → map type_of (emitted emits row) ≡ map (value_kind kinds) emits
emitted-typed kinds row t [] = refl
emitted-typed kinds row t (e ∷ emits) = λ i. value-typed kinds row t e i ∷ emitted-typed kinds row t emits i

-- what is listed has the types of what is emitted
listed-typed : (shape : Shape) (tables : List Rows) → AreOfAtoms shape.atoms tables
    → AreOf (map (value_kind (kinds_of shape)) shape.emits) (listed_of shape tables)
listed-typed shape tables typed =
    All-map (λ (row : Row). map type_of row ≡ map (value_kind (kinds_of shape)) shape.emits) (emitted shape.emits)
    (filter (all_hold shape.arith) (candidates_of shape tables))
    (All-weaker IsCombined (λ row. map type_of (emitted shape.emits row) ≡ map (value_kind (kinds_of shape)) shape.emits)
    (λ row t. emitted-typed (kinds_of shape) row t shape.emits) (filter (all_hold shape.arith) (candidates_of shape tables))
    (All-filter (all_hold shape.arith) IsCombined (candidates_of shape tables)
    (All-filter (all_hold (tests_of shape ++ map tie_test (ties_of shape))) IsCombined (combined_rows tables)
    (All-map IsCombined combined_row (combinations tables) (combinations-typed shape.atoms tables typed)))))
  where
    IsCombined : Row → Type 0
    IsCombined row = map type_of row ≡ kinds_of shape

-- ---- groups

group-kind : (kinds : List ColType) (kind : Option AggOp) (e : Scalar) (k : ColType)
    → is_kind k (emitted_kind kind (kind_in kinds e)) ≡ true
    → result_kind kind (value_kind kinds e) ≡ k
group-kind kinds None e k h = scalar-kind kinds e k h
group-kind kinds (Some agg.CountAll) e k h = sym (same_type-equal k kind.Int h)
group-kind kinds (Some agg.Count) e k h = sym (same_type-equal k kind.Int h)
group-kind kinds (Some agg.Sum) e k h = by (is_kind kind.Int (kind_in kinds e) && is_kind kind.Int (kind_in kinds e)) h
  where
    by : (b : Bool) → is_kind k (cond b (Some kind.Int) None) ≡ true → kind.Int ≡ k
    by true g = sym (same_type-equal k kind.Int g)
    by false g = absurd (cc)
group-kind kinds (Some agg.Min) e k h = scalar-kind kinds e k h
group-kind kinds (Some agg.Max) e k h = scalar-kind kinds e k h

abbrev is_emitted : List ColType → Option AggOp × Scalar → ColType → Bool
is_emitted over p k = is_kind k (emitted_kind p.0 (kind_in over p.1))

group-kinds : (over : List ColType) (kinds : Kinds) (emits : List Scalar) (columns : List ColType) → length kinds ≡ length emits
    → pointwise (is_emitted over) (zip kinds emits) columns ≡ true → result_kinds kinds (map (value_kind over) emits) ≡ columns
group-kinds over [] [] [] e h = refl
group-kinds over [] [] (k ∷ columns) e h = absurd (cc)
group-kinds over [] (f ∷ emits) columns e h = absurd (omega (arith, e))
group-kinds over (kind ∷ kinds) [] columns e h = absurd (omega (arith, e))
group-kinds over (kind ∷ kinds) (f ∷ emits) [] e h = absurd (cc)
group-kinds over (kind ∷ kinds) (f ∷ emits) (k ∷ columns) e h =
    let parts = both (is_emitted over (kind, f) k) (pointwise (is_emitted over) (zip kinds emits) columns) h in
    let first = group-kind over kind f k parts.0 in
    let others = group-kinds over kinds emits columns (omega (arith, e)) parts.1 in
    λ i. first i ∷ others i

-- ---- terms

-- the rows of what is known have these types
abbrev pub Knows : (Source → Option (List ColType)) → (Source → Rows) → Type 0
Knows known value = (o : Source) (own : List ColType) → known o ≡ Some own → AreOf own (value o)

source-typed : (found : Option (List ColType)) (kinds : List ColType) (rows : Rows)
    → ((own : List ColType) → found ≡ Some own → AreOf own rows)
    → has_kinds found kinds ≡ true → AreOf kinds rows
source-typed None kinds rows h k = absurd (cc)
source-typed (Some own) kinds rows h k = subst (λ ks. AreOf ks rows) (same_kinds-equal own kinds k) (h own refl)

module _ (known : Source → Option (List ColType)) (value : Source → Rows) (knows : Knows known value) where
  abbrev has_atom : Source → AtomTree → Bool
  has_atom s a = has_kinds (known s) a.kinds

  pub one-source : (s : Source) (columns : List ColType) → has_kinds (known s) columns ≡ true → AreOf columns (value s)
  one-source s columns h = source-typed (known s) columns (value s) (knows s) h

  items-typed : (sources : List Source) (atoms : List AtomTree) → pointwise has_atom sources atoms ≡ true
      → AreOfAtoms atoms (map value sources)
  items-typed [] [] h = tt
  items-typed [] (a ∷ atoms) h = absurd (cc)
  items-typed (s ∷ sources) [] h = absurd (cc)
  items-typed (s ∷ sources) (a ∷ atoms) h =
      let parts = both (has_atom s a) (pointwise has_atom sources atoms) h in
      (one-source s a.kinds parts.0, items-typed sources atoms parts.1)

  pub term-typed : (t : TermTree) (columns : List ColType) → is_term known t columns ≡ true → AreOf columns (term_rows value t)
  term-typed (Same s) columns h = one-source s columns h
  term-typed Empty columns h = All-nil (IsOf columns)
  term-typed (UnionAll s t) columns h =
      let parts = both (has_kinds (known s) columns) (has_kinds (known t) columns) h in
      All-append (IsOf columns) (value s) (value t) (one-source s columns parts.0) (one-source t columns parts.1)
  term-typed (Diff s t) columns h =
      let parts = both (has_kinds (known s) columns) (has_kinds (known t) columns) h in
      All-filter (λ r. not (has_row (value t) r)) (IsOf columns) (distinct (value s))
      (All-distinct (IsOf columns) (value s) (one-source s columns parts.0))
  term-typed (Distinct s) columns h = All-distinct (IsOf columns) (value s) (one-source s columns h)
  term-typed (Join shape sources) columns h =
      let parts = three (is_shape shape) (pointwise has_atom sources shape.atoms)
      (pointwise (λ e k. is_kind k (kind_in (kinds_of shape) e)) shape.emits columns) h in
      subst (λ ks. AreOf ks (listed_of shape (map value sources))) (emits-kinds (kinds_of shape) shape.emits columns parts.2)
      (listed-typed shape (map value sources) (items-typed sources shape.atoms parts.1))
  term-typed (Group shape sources kinds) columns h =
      let parts = three (is_shape shape) (pointwise has_atom sources shape.atoms)
      (emits_columns (kinds_of shape) kinds shape.emits columns) h in
      let emits = both (length kinds == length shape.emits)
      (pointwise (is_emitted (kinds_of shape)) (zip kinds shape.emits) columns) parts.2 in
      let long = eqb-true (length kinds) (length shape.emits) emits.0 in
      subst (λ ks. AreOf ks (groups kinds (listed_of shape (map value sources))))
      (group-kinds (kinds_of shape) kinds shape.emits columns long emits.1)
      (groups-typed kinds (map (value_kind (kinds_of shape)) shape.emits)
      (long ∙ sym (length-map shape.emits (value_kind (kinds_of shape))))
      (listed_of shape (map value sources)) (listed-typed shape (map value sources) (items-typed sources shape.atoms parts.1)))

-- ---- steps

-- the rows are of the columns' types
abbrev IsTyped : PlacedRelation → Type 0
IsTyped q = AreOf (kinds_of_columns q.relation.schema) q.relation.rows

module _ (p : Placing) (files : List File) where
  abbrev rows-by : List (ℕ × PlacedRelation) → Source → Rows
  rows-by results o = (placed_source p files results o).relation.rows

  some-same : (a b : List ColType) → Some a ≡ Some b → a ≡ b
  some-same a b k = ap (λ (o : Option (List ColType)). unwrap_or o a) k

  file-typed : (lent : List File) → AreTyped lent → (place : ℕ) (own : List ColType)
      → option_map (λ (f : File). kinds_of_columns f.1.schema) (slice_get lent place) ≡ Some own
      → AreOf own (slice_index_or (placed_files p lent) place (placed_nothing p.workers)).relation.rows
  file-typed [] typed place own e = All-nil (IsOf own)
  file-typed (f ∷ lent) typed zero own e =
      subst (λ kinds. AreOf kinds f.1.rows) (some-same (kinds_of_columns f.1.schema) own e)
      (All-weaker (HasTypes f.1.schema) (IsOf (kinds_of_columns f.1.schema)) (types-of_row f.1.schema) f.1.rows
      (All-head (λ (f : File). All (HasTypes f.1.schema) f.1.rows) f lent typed))
  file-typed (f ∷ lent) typed (suc place) own e =
      file-typed lent (All-tail (λ (f : File). All (HasTypes f.1.schema) f.1.rows) f lent typed) place own e

  pub nothing-known : AreTyped files → Knows (source_kinds files []) (rows-by [])
  nothing-known typed (source.File place) own e = file-typed files typed place own e
  nothing-known typed (source.Result number) own e = absurd (never own e)
    where
      never : (own : List ColType) → None ≡ Some own → ⊥
      never own e = cc

  pub more-known : (results : List (ℕ × PlacedRelation)) (earlier : List StepTree) (s : StepTree) (made : PlacedRelation)
      → Knows (source_kinds files earlier) (rows-by results) → AreOf (kinds_of_columns s.schema) made.relation.rows
      → Knows (source_kinds files (s ∷ earlier)) (rows-by ((s.statement, made) ∷ results))
  more-known results earlier s made h k (source.File place) own e = h (source.File place) own e
  more-known results earlier s made h k (source.Result number) own e = by (s.statement == number) e (h (source.Result number) own)
    where
      by : (b : Bool) → option_map (λ (s : StepTree). kinds_of_columns s.schema)
          (cond b (Some s) (find (λ (s : StepTree). s.statement == number) earlier)) ≡ Some own
          → (source_kinds files earlier (source.Result number) ≡ Some own → AreOf own (rows-by results (source.Result number)))
          → AreOf own (unwrap_or (option_map (λ (r : ℕ × PlacedRelation). r.1)
          (cond b (Some (s.statement, made)) (find (λ (r : ℕ × PlacedRelation). r.0 == number) results)))
          (placed_nothing p.workers)).relation.rows
      by true e rest = subst (λ kinds. AreOf kinds made.relation.rows) (some-same (kinds_of_columns s.schema) own e) k
      by false e rest = rest e

  steps-typed : (steps : List StepTree) (last : ℕ) (earlier : List StepTree) (results : List (ℕ × PlacedRelation))
      → are_steps files last earlier steps ≡ true
      → Knows (source_kinds files earlier) (rows-by results) → All (λ (r : ℕ × PlacedRelation). IsTyped r.1) results
      → All (λ (r : ℕ × PlacedRelation). IsTyped r.1) (fold
      (λ before (s : StepTree). (s.statement, placed_step p files before s) ∷ before) results steps)
  steps-typed [] last earlier results h known all = all
  steps-typed (s ∷ steps) last earlier results h known all =
      let parts = three (nat_lt last s.statement) (is_term (source_kinds files earlier) s.term (kinds_of_columns s.schema))
      (are_steps files s.statement (s ∷ earlier) steps) h in
      let own = placed_step p files results s in
      let typed = term-typed (source_kinds files earlier) (rows-by results) known s.term (kinds_of_columns s.schema) parts.1 in
      steps-typed steps s.statement (s ∷ earlier) ((s.statement, own) ∷ results) parts.2
      (more-known results earlier s own known typed)
      (All-cons (λ (r : ℕ × PlacedRelation). IsTyped r.1) (s.statement, own) results typed all)

  files-typed : (lent : List File) → AreTyped lent → (place : ℕ)
      → IsTyped (slice_index_or (placed_files p lent) place (placed_nothing p.workers))
  files-typed [] typed place = All-nil (IsOf [])
  files-typed (f ∷ lent) typed zero =
      All-weaker (HasTypes f.1.schema) (IsOf (kinds_of_columns f.1.schema)) (types-of_row f.1.schema) f.1.rows
      (All-head (λ (f : File). All (HasTypes f.1.schema) f.1.rows) f lent typed)
  files-typed (f ∷ lent) typed (suc place) =
      files-typed lent (All-tail (λ (f : File). All (HasTypes f.1.schema) f.1.rows) f lent typed) place

  result-typed : (results : List (ℕ × PlacedRelation)) (number : ℕ) → All (λ (r : ℕ × PlacedRelation). IsTyped r.1) results
      → IsTyped (placed_source p files results (source.Result number))
  result-typed [] number all = All-nil (IsOf [])
  result-typed (r ∷ results) number all =
      by (r.0 == number) (result-typed results number (All-tail (λ (r : ℕ × PlacedRelation). IsTyped r.1) r results all))
    where
      by : (b : Bool) → IsTyped (placed_source p files results (source.Result number))
          → IsTyped (unwrap_or (option_map (λ (r : ℕ × PlacedRelation). r.1)
          (cond b (Some r) (find (λ (r : ℕ × PlacedRelation). r.0 == number) results))) (placed_nothing p.workers))
      by true rest = All-head (λ (r : ℕ × PlacedRelation). IsTyped r.1) r results all
      by false rest = rest

  pub source-is-typed : (results : List (ℕ × PlacedRelation)) → AreTyped files
      → All (λ (r : ℕ × PlacedRelation). IsTyped r.1) results
      → (o : Source) → IsTyped (placed_source p files results o)
  source-is-typed results typed all (source.File place) = files-typed files typed place
  source-is-typed results typed all (source.Result number) = result-typed results number all

pub meant-typed : (p : Placing) (files : List File) (c : CheckedTree) → IsTrue (is_of files c) → AreTyped files
    → (o : Source) → All (HasTypes (meant p files c o).relation.schema) (meant p files c o).relation.rows
meant-typed p files c of_files typed o =
    let q = meant p files c o in
    All-weaker (IsOf (kinds_of_columns q.relation.schema)) (HasTypes q.relation.schema)
    (typed-fits q.relation.schema) q.relation.rows
    (source-is-typed p files (placed_steps p files c.steps) typed
    (steps-typed p files c.steps 0 [] [] (checked-steps files c of_files) (nothing-known p files typed)
    (All-nil (λ (r : ℕ × PlacedRelation). IsTyped r.1))) o)

pub meant_are_placed : MeantArePlaced
meant_are_placed p files c good of_files typed o known = record {
  placed = found-IsPlaced p files (placed_steps p files c.steps) good (steps-IsPlaced p files c good of_files typed) o;
  typed = meant-typed p files c of_files typed o;
}
