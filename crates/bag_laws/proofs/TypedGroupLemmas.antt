-- Groups of rows whose values have given types have rows of types that follow.
use Rattle.std.proofs.Common.{◌≡◌, ◌∙◌, ℕ, zero, suc, ◌<◌, Bool, true, false, cond, Option, Some, None, List, [], ◌∷◌, length, map, filter, get_or, refl, ap, arith}
use Rattle.std.specs.Prelude.{All, fold, not}
use Rattle.std.specs.Ordering.{is_lt, is_gt}
use Rattle.std.proofs.lemmas.List.Elements.{All-nil, All-cons, All-head, All-tail, All-map, All-filter}
use Rattle.rel_base.specs.declared.values.Value.{Value}
use Rattle.rel_base.specs.declared.values.ColType.{ColType}
use Rattle.rel_base.specs.declared.values.ColType.TheVariants as kind
use Rattle.rel_base.specs.Relations.{type_of}
use Rattle.rel_base.specs.Values.{value_order}
use Rattle.myrial_ast.specs.declared.operators.AggOp.{AggOp}
use Rattle.myrial_ast.specs.declared.operators.AggOp.TheVariants as agg
use Rattle.myrial_ast.specs.Scalars.{value_at}
use Rattle.myrial_ast.specs.Bags.{same_row, distinct}
use Rattle.myrial_ast.specs.Combinations.{Row, Rows}
use Rattle.myrial_ast.specs.Groups.{Kinds, key_of, keys, members, lesser, greater, cell, group_row, groups}
use Rattle.bag_laws.proofs.ColumnLemmas.{behind, firsts, by_columns, group_row-columns}
use Rattle.bag_laws.proofs.PartialLemmas.{itself}

-- what holds of each row holds of each row that is kept once
pub All-distinct : (P : Row → Type 0) (rows : Rows) → All P rows → All P (distinct rows)
All-distinct P [] all = All-nil P
All-distinct P (r ∷ rows) all =
    All-cons P r (filter (λ s. not (same_row r s)) (distinct rows)) (All-head P r rows all)
    (All-filter (λ s. not (same_row r s)) P (distinct rows) (All-distinct P rows (All-tail P r rows all)))

-- a row's values have these types
abbrev pub IsOf : List ColType → Row → Type 0
IsOf ks row = map type_of row ≡ ks

-- each row's values have these types
abbrev pub AreOf : List ColType → Rows → Type 0
AreOf ks rows = All (λ (row : Row). map type_of row ≡ ks) rows

-- the type of a column of groups
abbrev pub result_kind : Option AggOp → ColType → ColType
result_kind None k = k
result_kind (Some agg.CountAll) k = kind.Int
result_kind (Some agg.Count) k = kind.Int
result_kind (Some agg.Sum) k = kind.Int
result_kind (Some agg.Min) k = k
result_kind (Some agg.Max) k = k

-- the types of a group's row
abbrev pub result_kinds : Kinds → List ColType → List ColType
result_kinds (kind ∷ kinds) (k ∷ ks) = result_kind kind k ∷ result_kinds kinds ks
result_kinds _ _ = []

abbrev HaveType : ColType → List Value → Type 0
HaveType k vs = All (λ v. type_of v ≡ k) vs

lesser-typed : (k : ColType) (a b : Value) → type_of a ≡ k → type_of b ≡ k → type_of (lesser a b) ≡ k
lesser-typed k a b e f = by (is_lt (value_order b a))
  where
    by : (t : Bool) → type_of (cond t b a) ≡ k
    by true = f
    by false = e

greater-typed : (k : ColType) (a b : Value) → type_of a ≡ k → type_of b ≡ k → type_of (greater a b) ≡ k
greater-typed k a b e f = by (is_gt (value_order b a))
  where
    by : (t : Bool) → type_of (cond t b a) ≡ k
    by true = f
    by false = e

fold-typed : (f : Value → Value → Value) (k : ColType) → ((a b : Value) → type_of a ≡ k → type_of b ≡ k → type_of (f a b) ≡ k)
    → (v : Value) (vs : List Value) → type_of v ≡ k → HaveType k vs → type_of (fold f v vs) ≡ k
fold-typed f k step v [] e all = e
fold-typed f k step v (w ∷ vs) e all =
    fold-typed f k step (f v w) vs (step v w e (All-head (λ w. type_of w ≡ k) w vs all)) (All-tail (λ w. type_of w ≡ k) w vs all)

cell-typed : (kind : Option AggOp) (k : ColType) (v : Value) (vs : List Value) → HaveType k (v ∷ vs) → type_of (cell kind (v ∷ vs))
    ≡ result_kind kind k
cell-typed None k v vs all = All-head (λ w. type_of w ≡ k) v vs all
cell-typed (Some agg.CountAll) k v vs all = refl
cell-typed (Some agg.Count) k v vs all = refl
cell-typed (Some agg.Sum) k v vs all = refl
cell-typed (Some agg.Min) k v vs all =
    fold-typed lesser k (lesser-typed k) v vs (All-head (λ w. type_of w ≡ k) v vs all) (All-tail (λ w. type_of w ≡ k) v vs all)
cell-typed (Some agg.Max) k v vs all =
    fold-typed greater k (greater-typed k) v vs (All-head (λ w. type_of w ≡ k) v vs all) (All-tail (λ w. type_of w ≡ k) v vs all)

first-typed : (k : ColType) (ks : List ColType) (rows : Rows) → AreOf (k ∷ ks) rows → HaveType k (firsts rows)
first-typed k ks [] all = All-nil (λ w. type_of w ≡ k)
first-typed k ks (row ∷ rows) all =
    All-cons (λ w. type_of w ≡ k) (value_at row 0) (firsts rows) (first row (All-head (IsOf (k ∷ ks)) row rows all))
    (first-typed k ks rows (All-tail (IsOf (k ∷ ks)) row rows all))
  where
    first : (row : Row) → map type_of row ≡ k ∷ ks → type_of (value_at row 0) ≡ k
    first [] e = absurd (cc)
    first (v ∷ row) e = cc

behind-typed : (k : ColType) (ks : List ColType) (rows : Rows) → AreOf (k ∷ ks) rows → AreOf ks (map behind rows)
behind-typed k ks [] all = All-nil (IsOf ks)
behind-typed k ks (row ∷ rows) all =
    All-cons (IsOf ks) (behind row) (map behind rows) (rest row (All-head (IsOf (k ∷ ks)) row rows all))
    (behind-typed k ks rows (All-tail (IsOf (k ∷ ks)) row rows all))
  where
    rest : (row : Row) → map type_of row ≡ k ∷ ks → map type_of (behind row) ≡ ks
    rest [] e = absurd (cc)
    rest (v ∷ row) e = cc

columns-typed : (kinds : Kinds) (ks : List ColType) (row : Row) (rows : Rows) → length kinds ≡ length ks → AreOf ks (row ∷ rows)
    → map type_of (by_columns kinds (row ∷ rows)) ≡ result_kinds kinds ks
columns-typed [] [] row rows e all = refl
columns-typed [] (k ∷ ks) row rows e all = absurd (omega (arith, e))
columns-typed (kind ∷ kinds) [] row rows e all = absurd (omega (arith, e))
columns-typed (kind ∷ kinds) (k ∷ ks) row rows e all =
    let first = cell-typed kind k (value_at row 0) (firsts rows) (first-typed k ks (row ∷ rows) all) in
    let others = columns-typed kinds ks (behind row) (map behind rows) (omega (arith, e)) (behind-typed k ks (row ∷ rows) all) in
    λ i. first i ∷ others i

filter-none-at : {X : Type 0} (p : X → Bool) (xs : List X) (i : ℕ) (d : X) → i < length xs → filter p xs ≡ [] → p (get_or xs i d)
    ≡ false
filter-none-at p [] i d low e = absurd (omega arith)
filter-none-at {X} p (x ∷ xs) i d low e = by (λ k small none. filter-none-at p xs k d small none) (p x) refl e i low
  where
    by : ((k : ℕ) → k < length xs → filter p xs ≡ [] → p (get_or xs k d) ≡ false) → (b : Bool) → p x ≡ b
        → cond b (x ∷ filter p xs) (filter p xs) ≡ []
        → (i : ℕ) → i < length (x ∷ xs) → p (get_or (x ∷ xs) i d) ≡ false
    by others true h e i low = absurd (cc)
    by others false h e zero low = h
    by others false h e (suc i) low = others i (omega arith) e

-- a key of the groups has members
has-members : (kinds : Kinds) (rows : Rows) (i : ℕ) (d : Row) → i < length rows
    → members kinds rows (key_of kinds (get_or rows i d)) ≡ [] → ⊥
has-members kinds rows i d low none =
    let passes : same_row (key_of kinds (get_or rows i d)) (key_of kinds (get_or rows i d))
    ≡ true = itself (key_of kinds (get_or rows i d)) in
    let fails = filter-none-at (λ row. same_row (key_of kinds (get_or rows i d)) (key_of kinds row)) rows i d low none in
    cc

module _ (kinds : Kinds) (ks : List ColType) (same : length kinds ≡ length ks) where
  -- the row of a group with members
  one-typed : (rows : Rows) → AreOf ks rows → (rows ≡ [] → ⊥) → map type_of (group_row kinds rows) ≡ result_kinds kinds ks
  one-typed [] all some = absurd (some refl)
  one-typed (row ∷ rows) all some =
      ap (map type_of) (group_row-columns kinds (row ∷ rows)) ∙ columns-typed kinds ks row rows same all

  pub groups-typed : (rows : Rows) → AreOf ks rows → AreOf (result_kinds kinds ks) (groups kinds rows)
  groups-typed rows all =
      All-map (IsOf (result_kinds kinds ks)) (λ key. group_row kinds (members kinds rows key)) (keys kinds rows)
      (All-distinct (λ key. map type_of (group_row kinds (members kinds rows key)) ≡ result_kinds kinds ks)
      (map (key_of kinds) rows)
      (All-map (λ key. map type_of (group_row kinds (members kinds rows key)) ≡ result_kinds kinds ks) (key_of kinds) rows
      (λ i d low. one-typed (members kinds rows (key_of kinds (get_or rows i d)))
      (All-filter (λ row. same_row (key_of kinds (get_or rows i d)) (key_of kinds row)) (IsOf ks) rows all)
      (has-members kinds rows i d low))))
