-- The rows of a step are as wide as its schema.
use Rattle.std.proofs.Common.{◌≡◌, ℕ, zero, suc, ◌==◌, Bool, true, false, cond, List, [], ◌∷◌, map, length, refl, sym, ◌∙◌, ap, subst, arith, Option, Some, None}
use Rattle.std.specs.Prelude.{filter, All, slice_index_or, slice_get, ⊤, ◌&&◌, find, unwrap_or, option_map, not}
use Rattle.std.specs.List.{enumerate_from, zip}
use Rattle.std.specs.Cmp.Lexicographic.{pointwise}
use Rattle.std.proofs.lemmas.Bool.{eqb-true}
use Rattle.std.proofs.lemmas.List.{length-map}
use Rattle.std.proofs.lemmas.List.FromFn.{length-enumerate_from}
use Rattle.std.proofs.lemmas.List.Elements.{All-nil, All-cons, All-head, All-tail, All-append, All-filter}
use Rattle.rel_base.specs.declared.relations.Column.{Column}
use Rattle.rel_base.specs.declared.values.ColType.{ColType}
use Rattle.rel_base.specs.Keys.{File}
use Rattle.rel_base.specs.Relations.{HasTypes, type_of, same_type}
use Rattle.myrial_ast.specs.Scalars.{Scalar}
use Rattle.myrial_ast.specs.declared.operators.AggOp.{AggOp}
use Rattle.myrial_ast.specs.Combinations.{Row, Rows, emitted, all_hold}
use Rattle.myrial_ast.specs.Bags.{distinct, has_row}
use Rattle.myrial_ast.specs.Groups.{Kinds, groups, group_row, keys, members}
use Rattle.algebra.specs.declared.terms.Source.{Source}
use Rattle.algebra.specs.declared.terms.Source.TheVariants as source
use Rattle.algebra.specs.Trees.{AtomTree, Shape, TermTree, Same, Empty, UnionAll, Diff, Distinct, Join, Group, StepTree}
use Rattle.algebra.specs.Shapes.{widths_of, candidates_of, listed_of}
use Rattle.algebra.specs.Meanings.{term_rows}
use Rattle.algebra.specs.Conditions.{emitted_kind, has_kinds, is_term, emits_columns, source_kinds, kinds_of_columns}
use Rattle.algebra.specs.ShapeConditions.{kinds_of, is_kind, kind_in, is_shape}
use Rattle.algebra.specs.Rewriting.{AreTyped}
use Rattle.algebra.proofs.ShapeLemmas.{both}
use Rattle.bag_laws.proofs.TypedGroupLemmas.{All-distinct}
use Rattle.placement.specs.Layouts.{PlacedRelation, Placing, placed_nothing, rows_of, placed_files, placed_source}
use Rattle.placement.specs.Laws.{AreWide}

abbrev pub AllLong : ℕ → Rows → Type 0
AllLong n rows = All (λ row. length row ≡ n) rows

-- the rows of what is known are as wide as its columns
abbrev pub Knows : (Source → Option (List ColType)) → (Source → PlacedRelation) → Type 0
Knows known value = (o : Source) (own : List ColType) → known o ≡ Some own → AllLong (length own) (value o).relation.rows

pub pointwise-length : {X Y : Type 0} (test : X → Y → Bool) (xs : List X) (ys : List Y) → pointwise test xs ys ≡ true → length xs ≡ length ys
pointwise-length test [] [] h = refl
pointwise-length test [] (y ∷ ys) h = absurd (cc)
pointwise-length test (x ∷ xs) [] h = absurd (cc)
pointwise-length test (x ∷ xs) (y ∷ ys) h = omega (arith, pointwise-length test xs ys (both (test x y) (pointwise test xs ys) h).1)

pub three : (a b c : Bool) → (a && b && c) ≡ true → (a ≡ true) × (b ≡ true) × (c ≡ true)
three true true true h = (refl, refl, refl)
three true true false h = absurd (cc)
three true false c h = absurd (cc)
three false b c h = absurd (cc)

source-long : (found : Option (List ColType)) (kinds : List ColType) (rows : Rows) → ((own : List ColType) → found ≡ Some own → AllLong (length own) rows) → has_kinds found kinds ≡ true → AllLong (length kinds) rows
source-long None kinds rows h k = absurd (cc)
source-long (Some own) kinds rows h k = subst (λ n. AllLong n rows) (pointwise-length same_type own kinds k) (h own refl)

-- ---- terms

made-long : {X : Type 0} (f : X → Row) (n : ℕ) → ((x : X) → length (f x) ≡ n) → (xs : List X) → AllLong n (map f xs)
made-long f n h [] = All-nil (λ row. length row ≡ n)
made-long f n h (x ∷ xs) = All-cons (λ row. length row ≡ n) (f x) (map f xs) (h x) (made-long f n h xs)

listed-long : (shape : Shape) (tables : List Rows) → AllLong (length shape.emits) (listed_of shape tables)
listed-long shape tables = made-long (emitted shape.emits) (length shape.emits) (λ row. length-map shape.emits _) (filter (all_hold shape.arith) (candidates_of shape tables))

groups-long : (kinds : Kinds) (rows : Rows) → AllLong (length kinds) (groups kinds rows)
groups-long kinds rows =
    made-long (λ key. group_row kinds (members kinds rows key)) (length kinds)
    (λ key. length-map (enumerate_from 0 kinds) _ ∙ length-enumerate_from 0 kinds) (keys kinds rows)

zip-length : {X Y : Type 0} (xs : List X) (ys : List Y) → length xs ≡ length ys → length (zip xs ys) ≡ length xs
zip-length [] ys e = refl
zip-length (x ∷ xs) [] e = absurd (omega (arith, e))
zip-length (x ∷ xs) (y ∷ ys) e = omega (arith, zip-length xs ys (omega (arith, e)))

pub term-long : (known : Source → Option (List ColType)) (value : Source → PlacedRelation) (t : TermTree) (columns : List ColType) → Knows known value → is_term known t columns ≡ true
    → AllLong (length columns) (term_rows (λ o. (value o).relation.rows) t)
term-long known value (Same s) columns h k = source-long (known s) columns (value s).relation.rows (h s) k
term-long known value Empty columns h k = All-nil (λ row. length row ≡ length columns)
term-long known value (UnionAll s t) columns h k =
    let parts = both (has_kinds (known s) columns) (has_kinds (known t) columns) k in
    All-append (λ row. length row ≡ length columns) (value s).relation.rows (value t).relation.rows
    (source-long (known s) columns (value s).relation.rows (h s) parts.0) (source-long (known t) columns (value t).relation.rows (h t) parts.1)
term-long known value (Diff s t) columns h k =
    let parts = both (has_kinds (known s) columns) (has_kinds (known t) columns) k in
    All-filter (λ r. not (has_row (value t).relation.rows r)) (λ row. length row ≡ length columns) (distinct (value s).relation.rows)
    (All-distinct (λ row. length row ≡ length columns) (value s).relation.rows (source-long (known s) columns (value s).relation.rows (h s) parts.0))
term-long known value (Distinct s) columns h k =
    All-distinct (λ row. length row ≡ length columns) (value s).relation.rows (source-long (known s) columns (value s).relation.rows (h s) k)
term-long known value (Join shape sources) columns h k =
    let parts = three (is_shape shape) (pointwise (λ s (a : AtomTree). has_kinds (known s) a.kinds) sources shape.atoms) (pointwise (λ e k. is_kind k (kind_in (kinds_of shape) e)) shape.emits columns) k in
    let rows = listed_of shape (map (λ o. (value o).relation.rows) sources) in
    subst (λ n. AllLong n rows) (pointwise-length (λ e k. is_kind k (kind_in (kinds_of shape) e)) shape.emits columns parts.2) (listed-long shape (map (λ o. (value o).relation.rows) sources))
term-long known value (Group shape sources kinds) columns h k =
    let parts = three (is_shape shape) (pointwise (λ s (a : AtomTree). has_kinds (known s) a.kinds) sources shape.atoms) (emits_columns (kinds_of shape) kinds shape.emits columns) k in
    let emits = both (length kinds == length shape.emits) (pointwise (λ (p : Option AggOp × Scalar) k. is_kind k (emitted_kind p.0 (kind_in (kinds_of shape) p.1))) (zip kinds shape.emits) columns) parts.2 in
    let rows = listed_of shape (map (λ o. (value o).relation.rows) sources) in
    subst (λ n. AllLong n (groups kinds rows))
    (sym (zip-length kinds shape.emits (eqb-true (length kinds) (length shape.emits) emits.0))
    ∙ pointwise-length (λ (p : Option AggOp × Scalar) k. is_kind k (emitted_kind p.0 (kind_in (kinds_of shape) p.1))) (zip kinds shape.emits) columns emits.1)
    (groups-long kinds rows)

-- ---- the items of a join

sources-wide : (known : Source → Option (List ColType)) (value : Source → PlacedRelation) → Knows known value → (sources : List Source) (atoms : List AtomTree)
    → pointwise (λ s (a : AtomTree). has_kinds (known s) a.kinds) sources atoms ≡ true → AreWide (map (λ (a : AtomTree). length a.kinds) atoms) (rows_of (map value sources))
sources-wide known value h [] [] k = tt
sources-wide known value h [] (a ∷ atoms) k = absurd (cc)
sources-wide known value h (s ∷ sources) [] k = absurd (cc)
sources-wide known value h (s ∷ sources) (a ∷ atoms) k =
    let parts = both (has_kinds (known s) a.kinds) (pointwise (λ s (a : AtomTree). has_kinds (known s) a.kinds) sources atoms) k in
    (source-long (known s) a.kinds (value s).relation.rows (h s) parts.0, sources-wide known value h sources atoms parts.1)

-- the items of a term's join are as wide as its atoms
abbrev pub ItemsAreWide : (Source → PlacedRelation) → TermTree → Type 0
ItemsAreWide value (Join shape sources) = AreWide (widths_of shape) (rows_of (map value sources))
ItemsAreWide value (Group shape sources kinds) = AreWide (widths_of shape) (rows_of (map value sources))
ItemsAreWide value _ = ⊤

pub items-wide : (known : Source → Option (List ColType)) (value : Source → PlacedRelation) (t : TermTree) (columns : List ColType) → Knows known value → is_term known t columns ≡ true → ItemsAreWide value t
items-wide known value (Same s) columns h k = tt
items-wide known value Empty columns h k = tt
items-wide known value (UnionAll s t) columns h k = tt
items-wide known value (Diff s t) columns h k = tt
items-wide known value (Distinct s) columns h k = tt
items-wide known value (Join shape sources) columns h k =
    sources-wide known value h sources shape.atoms
    (three (is_shape shape) (pointwise (λ s (a : AtomTree). has_kinds (known s) a.kinds) sources shape.atoms) (pointwise (λ e k. is_kind k (kind_in (kinds_of shape) e)) shape.emits columns) k).1
items-wide known value (Group shape sources kinds) columns h k =
    sources-wide known value h sources shape.atoms
    (three (is_shape shape) (pointwise (λ s (a : AtomTree). has_kinds (known s) a.kinds) sources shape.atoms) (emits_columns (kinds_of shape) kinds shape.emits columns) k).1

-- ---- what is known of files and of earlier steps

typed-long : (schema : List Column) (rows : Rows) → All (HasTypes schema) rows → AllLong (length (kinds_of_columns schema)) rows
typed-long schema [] all = All-nil (λ row. length row ≡ length (kinds_of_columns schema))
typed-long schema (row ∷ rows) all =
    All-cons (λ row. length row ≡ length (kinds_of_columns schema)) row rows
    (sym (pointwise-length (λ (c : Column) v. same_type c.kind (type_of v)) schema row (All-head (HasTypes schema) row rows all)) ∙ sym (length-map schema (λ (c : Column). c.kind)))
    (typed-long schema rows (All-tail (HasTypes schema) row rows all))

file-known : (p : Placing) (files : List File) → AreTyped files → (place : ℕ) (own : List ColType)
    → option_map (λ (f : File). kinds_of_columns f.1.schema) (slice_get files place) ≡ Some own → AllLong (length own) (slice_index_or (placed_files p files) place (placed_nothing p.workers)).relation.rows
file-known p [] typed place own e = All-nil (λ row. length row ≡ length own)
file-known p (f ∷ files) typed zero own e =
    subst (λ kinds. AllLong (length kinds) f.1.rows) (some (kinds_of_columns f.1.schema) own e) (typed-long f.1.schema f.1.rows (All-head (λ (f : File). All (HasTypes f.1.schema) f.1.rows) f files typed))
  where
    some : (a b : List ColType) → Some a ≡ Some b → a ≡ b
    some a b k = ap (λ (o : Option (List ColType)). unwrap_or o a) k
file-known p (f ∷ files) typed (suc place) own e =
    file-known p files (All-tail (λ (f : File). All (HasTypes f.1.schema) f.1.rows) f files typed) place own e

pub nothing-known : (p : Placing) (files : List File) → AreTyped files → Knows (source_kinds files []) (placed_source p files [])
nothing-known p files typed (source.File place) own e = file-known p files typed place own e
nothing-known p files typed (source.Result number) own e = absurd (never own e)
  where
    never : (own : List ColType) → None ≡ Some own → ⊥
    never own e = cc

pub more-known : (p : Placing) (files : List File) (results : List (ℕ × PlacedRelation)) (earlier : List StepTree) (s : StepTree) (value : PlacedRelation)
    → Knows (source_kinds files earlier) (placed_source p files results) → AllLong (length (kinds_of_columns s.schema)) value.relation.rows
    → Knows (source_kinds files (s ∷ earlier)) (placed_source p files ((s.statement, value) ∷ results))
more-known p files results earlier s value h k (source.File place) own e = h (source.File place) own e
more-known p files results earlier s value h k (source.Result number) own e = by (s.statement == number) e (h (source.Result number) own)
  where
    some : (a b : List ColType) → Some a ≡ Some b → a ≡ b
    some a b k = ap (λ (o : Option (List ColType)). unwrap_or o a) k

    by : (b : Bool) → option_map (λ (s : StepTree). kinds_of_columns s.schema) (cond b (Some s) (find (λ (s : StepTree). s.statement == number) earlier)) ≡ Some own
        → (source_kinds files earlier (source.Result number) ≡ Some own → AllLong (length own) (placed_source p files results (source.Result number)).relation.rows)
        → AllLong (length own) (unwrap_or (option_map (λ (r : ℕ × PlacedRelation). r.1) (cond b (Some (s.statement, value)) (find (λ (r : ℕ × PlacedRelation). r.0 == number) results))) (placed_nothing p.workers)).relation.rows
    by true e rest = subst (λ kinds. AllLong (length kinds) value.relation.rows) (some (kinds_of_columns s.schema) own e) k
    by false e rest = rest e
