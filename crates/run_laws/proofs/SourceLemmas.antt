-- The sources of a well-formed term are known, and a term over them is the same wherever they stand for the same.
use Rattle.std.proofs.Common.{◌≡◌, ℕ, zero, suc, ◌<◌, ◌==◌, Bool, true, false, cond, List, [], ◌∷◌, ◌++◌, map, length, refl, ap, subst, arith, Option, Some, None}
use Rattle.std.specs.Prelude.{All, Contains, ◌&&◌, find, is_some, option_map, slice_get}
use Rattle.std.specs.Cmp.Lexicographic.{pointwise}
use Rattle.std.proofs.lemmas.Bool.{eqb-true}
use Rattle.std.proofs.lemmas.List.Elements.{All-nil, All-cons, All-head, All-tail, All-weaker}
use Rattle.rel_base.specs.declared.values.ColType.{ColType}
use Rattle.rel_base.specs.declared.faults.RunFault.TheVariants as fault
use Rattle.rel_base.specs.Keys.{File}
use Rattle.myrial_ast.specs.Combinations.{Rows}
use Rattle.myrial_ast.specs.Bags.{union_all, distinct, difference}
use Rattle.myrial_ast.specs.Groups.{groups}
use Rattle.myrial_ast.specs.CandidateFaults.{FaultRule, too_many}
use Rattle.algebra.specs.declared.terms.Source.{Source}
use Rattle.algebra.specs.declared.terms.Source.TheVariants as source
use Rattle.algebra.specs.Trees.{AtomTree, TermTree, Same, Empty, UnionAll, Diff, Distinct, Join, Group, StepTree}
use Rattle.algebra.specs.Shapes.{listed_of}
use Rattle.algebra.specs.ShapeConditions.{is_shape}
use Rattle.algebra.specs.Conditions.{kinds_of_columns, source_kinds, has_kinds, is_term}
use Rattle.algebra.specs.Meanings.{sources_of, term_rows, shape_fault, term_fault}
use Rattle.algebra.proofs.ShapeLemmas.{both}
pub use Rattle.algebra.proofs.MemberLemmas.{in_front, behind, first_or_behind, nothing_in_none}
use Rattle.placement.specs.Layouts.{PlacedRelation, Placing, by_worker, part, parts_by_row, parts_by_key, listed_parts, term_parts}
use Rattle.placement.proofs.WidthLemmas.{three}
use Rattle.run_laws.specs.Values.{IsKnown}

-- ---- sources are known

module _ (files : List File) (steps : List StepTree) where
  file-known : (lent : List File) (place : ℕ) → is_some (option_map (λ (f : File). kinds_of_columns f.1.schema)
      (slice_get lent place)) ≡ true
      → place < length lent
  file-known [] place h = absurd (cc)
  file-known (f ∷ lent) zero h = omega arith
  file-known (f ∷ lent) (suc place) h = omega (arith, file-known lent place h)

  step-known : (earlier : List StepTree) (number : ℕ)
      → is_some (option_map (λ (s : StepTree). kinds_of_columns s.schema) (find (λ (s : StepTree). s.statement == number) earlier))
      ≡ true
      → Contains (map (λ (s : StepTree). s.statement) earlier) number
  step-known [] number h = absurd (cc)
  step-known (s ∷ earlier) number h = by (s.statement == number) refl h (step-known earlier number)
    where
      by : (b : Bool) → (s.statement == number) ≡ b
          → is_some (option_map (λ (s : StepTree). kinds_of_columns s.schema)
          (cond b (Some s) (find (λ (s : StepTree). s.statement == number) earlier))) ≡ true
          → (is_some (option_map (λ (s : StepTree). kinds_of_columns s.schema)
          (find (λ (s : StepTree). s.statement == number) earlier)) ≡ true
          → Contains (map (λ (s : StepTree). s.statement) earlier) number)
          → Contains (map (λ (s : StepTree). s.statement) (s ∷ earlier)) number
      by true e k rest =
          subst (Contains (map (λ (s : StepTree). s.statement) (s ∷ earlier))) (eqb-true s.statement number e)
          (in_front s.statement (map (λ (s : StepTree). s.statement) earlier))
      by false e k rest = behind s.statement (map (λ (s : StepTree). s.statement) earlier) number (rest k)

  pub some-known : (o : Source) → is_some (source_kinds files steps o) ≡ true → IsKnown files steps o
  some-known (source.File place) h = file-known files place h
  some-known (source.Result number) h = step-known steps number h

  pub kinds-known : (o : Source) (columns : List ColType) → has_kinds (source_kinds files steps o) columns ≡ true
      → IsKnown files steps o
  kinds-known o columns h = some-known o (by (source_kinds files steps o) h)
    where
      by : (found : Option (List ColType)) → has_kinds found columns ≡ true → is_some found ≡ true
      by (Some own) k = refl
      by None k = absurd (cc)

-- ---- the sources of a term

module _ (P : Source → Type 0) (known : Source → Option (List ColType))
    (each : (o : Source) (columns : List ColType) → has_kinds (known o) columns ≡ true → P o) where
  two-sources : (s t : Source) (columns : List ColType) → (has_kinds (known s) columns && has_kinds (known t) columns) ≡ true
      → All P (s ∷ t ∷ [])
  two-sources s t columns h =
      let parts = both (has_kinds (known s) columns) (has_kinds (known t) columns) h in
      All-cons P s (t ∷ []) (each s columns parts.0) (All-cons P t [] (each t columns parts.1) (All-nil P))

  item-sources : (sources : List Source) (atoms : List AtomTree)
      → pointwise (λ s (a : AtomTree). has_kinds (known s) a.kinds) sources atoms ≡ true → All P sources
  item-sources [] atoms h = All-nil P
  item-sources (s ∷ sources) [] h = absurd (cc)
  item-sources (s ∷ sources) (a ∷ atoms) h =
      let parts = both (has_kinds (known s) a.kinds) (pointwise
      (λ s (a : AtomTree). has_kinds (known s) a.kinds) sources atoms) h in
      All-cons P s sources (each s a.kinds parts.0) (item-sources sources atoms parts.1)

  middle : (a b c : Bool) → (a && b && c) ≡ true → b ≡ true
  middle a b c h = (three a b c h).1

  pub term-sources : (t : TermTree) (columns : List ColType) → is_term known t columns ≡ true → All P (sources_of t)
  term-sources (Same s) columns h = All-cons P s [] (each s columns h) (All-nil P)
  term-sources Empty columns h = All-nil P
  term-sources (UnionAll s t) columns h = two-sources s t columns h
  term-sources (Diff s t) columns h = two-sources s t columns h
  term-sources (Distinct s) columns h = All-cons P s [] (each s columns h) (All-nil P)
  term-sources (Join shape sources) columns h = item-sources sources shape.atoms (middle (is_shape shape) _ _ h)
  term-sources (Group shape sources kinds) columns h = item-sources sources shape.atoms (middle (is_shape shape) _ _ h)

pub term-known : (files : List File) (earlier : List StepTree) (t : TermTree) (columns : List ColType)
    → is_term (source_kinds files earlier) t columns ≡ true → All (IsKnown files earlier) (sources_of t)
term-known files earlier t columns h =
    term-sources (IsKnown files earlier) (source_kinds files earlier) (kinds-known files earlier) t columns h

-- ---- terms over sources that stand for the same

pub map-same : {X Y : Type 0} (f g : X → Y) (xs : List X) → All (λ x. f x ≡ g x) xs → map f xs ≡ map g xs
map-same f g [] h = refl
map-same f g (x ∷ xs) h =
    let first = All-head (λ x. f x ≡ g x) x xs h in
    let rest = map-same f g xs (All-tail (λ x. f x ≡ g x) x xs h) in
    λ i. first i ∷ rest i

one : {X Y : Type 0} (f g : X → Y) (x : X) (xs : List X) → All (λ x. f x ≡ g x) (x ∷ xs) → f x ≡ g x
one f g x xs h = All-head (λ x. f x ≡ g x) x xs h

other : {X Y : Type 0} (f g : X → Y) (x y : X) (xs : List X) → All (λ x. f x ≡ g x) (x ∷ y ∷ xs) → f y ≡ g y
other f g x y xs h = All-head (λ x. f x ≡ g x) y xs (All-tail (λ x. f x ≡ g x) x (y ∷ xs) h)

module _ (f g : Source → Rows) where
  pub rows-same : (t : TermTree) → All (λ o. f o ≡ g o) (sources_of t) → term_rows f t ≡ term_rows g t
  rows-same (Same s) h = one f g s [] h
  rows-same Empty h = refl
  rows-same (UnionAll s t) h = let a = one f g s (t ∷ []) h in let b = other f g s t [] h in λ i. union_all (a i) (b i)
  rows-same (Diff s t) h = let a = one f g s (t ∷ []) h in let b = other f g s t [] h in λ i. difference (a i) (b i)
  rows-same (Distinct s) h = ap distinct (one f g s [] h)
  rows-same (Join shape sources) h = ap (listed_of shape) (map-same f g sources h)
  rows-same (Group shape sources kinds) h = ap (λ tables. groups kinds (listed_of shape tables)) (map-same f g sources h)

  pub fault-same : (rule : FaultRule) (number : ℕ) (t : TermTree) → All (λ o. f o ≡ g o) (sources_of t)
      → term_fault rule number f t ≡ term_fault rule number g t
  fault-same rule number (Same s) h = refl
  fault-same rule number Empty h = refl
  fault-same rule number (UnionAll s t) h =
      let a = one f g s (t ∷ []) h in let b = other f g s t [] h in
      λ i. cond (too_many (union_all (a i) (b i))) (Some (fault.TooManyRows number)) None
  fault-same rule number (Diff s t) h = refl
  fault-same rule number (Distinct s) h = refl
  fault-same rule number (Join shape sources) h = ap (shape_fault rule number shape []) (map-same f g sources h)
  fault-same rule number (Group shape sources kinds) h = ap (shape_fault rule number shape kinds) (map-same f g sources h)

module _ (p : Placing) (number : ℕ) (f g : Source → PlacedRelation) where
  same_rows : (sources : List Source) → All (λ o. f o ≡ g o) sources → All (λ o. (f o).relation.rows ≡ (g o).relation.rows) sources
  same_rows sources h =
      All-weaker (λ o. f o ≡ g o) (λ o. (f o).relation.rows ≡ (g o).relation.rows) (λ o e i. (e i).relation.rows) sources h

  pub placed_rows-same : (t : TermTree) → All (λ o. f o ≡ g o) (sources_of t)
      → term_rows (λ o. (f o).relation.rows) t ≡ term_rows (λ o. (g o).relation.rows) t
  placed_rows-same t h = rows-same (λ o. (f o).relation.rows) (λ o. (g o).relation.rows) t (same_rows (sources_of t) h)

  pub parts-same : (t : TermTree) → All (λ o. f o ≡ g o) (sources_of t) → term_parts p number f t ≡ term_parts p number g t
  parts-same (Same s) h = let a = one f g s [] h in λ i. (a i).parts
  parts-same Empty h = refl
  parts-same (UnionAll s t) h =
      let a = one f g s (t ∷ []) h in let b = other f g s t [] h in
      λ i. by_worker p.workers (λ w. part (a i) w ++ part (b i) w)
  parts-same (Diff s t) h = ap (parts_by_row p) (placed_rows-same (Diff s t) h)
  parts-same (Distinct s) h = ap (parts_by_row p) (placed_rows-same (Distinct s) h)
  parts-same (Join shape sources) h = ap (listed_parts p number shape) (map-same f g sources h)
  parts-same (Group shape sources kinds) h = ap (parts_by_key p kinds) (placed_rows-same (Group shape sources kinds) h)
