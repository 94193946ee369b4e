-- What a step lists: the rows of the first atoms that are extended by those of an atom.
use Rattle.std.proofs.Common.{◌≡◌, ℕ, zero, suc, ◌+◌, ◌<◌, ◌==◌, Bool, true, false, cond, List, [], ◌∷◌, ◌++◌, map, take, length, get_or, All, refl, sym, ap, ◌∙◌, subst, arith, append-nil}
use Rattle.std.specs.Prelude.{filter, sum, ◌&&◌, ◌||◌}
use Rattle.std.specs.List.{flat_map}
use Rattle.std.proofs.lemmas.Bool.Decides.{nat_tests}
use Rattle.std.proofs.lemmas.List.{take_all, length-map}
use Rattle.std.proofs.lemmas.List.Folds.{list_all-append}
use Rattle.std.proofs.lemmas.List.Concat.{flat_map-cons}
use Rattle.std.proofs.lemmas.List.Elements.{All-nil, All-head, All-tail, All-map, All-append}
use Rattle.myrial_ast.specs.Scalars.{Scalar, value_at, holds}
use Rattle.myrial_ast.specs.Combinations.{Row, Rows, all_hold, candidates}
use Rattle.myrial_ast.specs.KeptRows.{Span, lies_in, columns_in, classes_agree, passes_within, span_of_prefix}
use Rattle.algebra.specs.Trees.{AtomTree, Shape}
use Rattle.algebra.specs.Shapes.{widths_of, shifted, keeps_from, tests_of, ties_in, ties_of, tie_test, candidates_of}
use Rattle.algebra.specs.ShapeConditions.{is_shape, all_different}
use Rattle.algebra.specs.Joins.{no_atom}
use Rattle.algebra.proofs.ShapeLemmas.{tie-holds, both}
use Rattle.placement.specs.Laws.{extended}
use Rattle.placement.proofs.CellLemmas.{passes}
use Rattle.placement.proofs.KeptLemmas.{ties-agree, agreeing}
use Rattle.placement.proofs.MeetingLemmas.{lies-in}
use Rattle.placement.proofs.PrefixLemmas.{behind_it}
use Rattle.routed_joins.proofs.ShapeLemmas.{shape-parts}
use Rattle.kept_rows.specs.KeptTests.{IsPartRow, is_kept}
use Rattle.placement.proofs.ListingLemmas.{combined-two}
use Rattle.regular_shuffle.specs.inner.Steps.{before_kinds, pairs_at, step_shape, every_column, middle_shape, last_shape, IsFront}
use Rattle.regular_shuffle.proofs.VariableLemmas.{has, EachOf, AgreesIn, variables-agree}
use Rattle.regular_shuffle.proofs.StepLemmas.{iff-eq, kinds-long, ties-are, ties-step, own-keeps, keeps-hold, middle-step}
use Rattle.regular_shuffle.proofs.ShapedLemmas.{all-parts}

-- ---- all ties

-- each column of a variable has one value where any two that lie in a span do, and all lie there
tie-in : (span : Span) (row : Row) (v : List ℕ) (c : ℕ) (ds : List ℕ) → AgreesIn span (value_at row) v → has v c ≡ true → lies_in span c ≡ true
    → All (λ d. (has v d ≡ true) × (lies_in span d ≡ true)) ds → all_hold (map tie_test (map (λ d. (c, d)) ds)) row ≡ true
tie-in span row v c [] agrees has_c lies_c all = refl
tie-in span row v c (d ∷ ds) agrees has_c lies_c all =
    let first = All-head (λ d. (has v d ≡ true) × (lies_in span d ≡ true)) d ds all in
    let here = tie-holds row c d (agrees c d has_c first.0 lies_c first.1) in
    λ i. here i && tie-in span row v c ds agrees has_c lies_c (All-tail (λ d. (has v d ≡ true) × (lies_in span d ≡ true)) d ds all) i

has-own : (xs ys : List ℕ) (span : Span) → All (λ d. lies_in span d ≡ true) ys → All (λ d. (has (xs ++ ys) d ≡ true) × (lies_in span d ≡ true)) ys
has-own xs [] span all = All-nil (λ d. (has (xs ++ []) d ≡ true) × (lies_in span d ≡ true))
has-own xs (y ∷ ys) span all = λ k d below. (has-at (xs ++ y ∷ ys) xs (y ∷ ys) refl k d below, all k d below)
  where
    itself : (c : ℕ) (zs : List ℕ) → has (c ∷ zs) c ≡ true
    itself c zs = let one : (c == c) ≡ true = grind (arith, nat_tests) in ap (λ b. b || has zs c) one

    or-true : (b : Bool) → (b || true) ≡ true
    or-true true = refl
    or-true false = refl

    in-list : (zs : List ℕ) (k d : ℕ) → k < length zs → has zs (get_or zs k d) ≡ true
    in-list [] k d below = absurd (omega (arith, below))
    in-list (z ∷ zs) zero d below = itself z zs
    in-list (z ∷ zs) (suc k) d below = ap (λ b. (z == get_or zs k d) || b) (in-list zs k d (omega (arith, below))) ∙ or-true (z == get_or zs k d)

    behind : (cs bs : List ℕ) (c : ℕ) → has bs c ≡ true → has (cs ++ bs) c ≡ true
    behind [] bs c h = h
    behind (a ∷ cs) bs c h = ap (λ b. (a == c) || b) (behind cs bs c h) ∙ or-true (a == c)

    has-at : (all cs bs : List ℕ) → all ≡ cs ++ bs → (k d : ℕ) → k < length bs → has all (get_or bs k d) ≡ true
    has-at all cs bs e k d below = ap (λ l. has l (get_or bs k d)) e ∙ behind cs bs (get_or bs k d) (in-list bs k d below)

variable-ties : (span : Span) (row : Row) (v : List ℕ) → AgreesIn span (value_at row) v → All (λ d. lies_in span d ≡ true) v → all_hold (map tie_test (ties_in v)) row ≡ true
variable-ties span row [] agrees all = refl
variable-ties span row (c ∷ cs) agrees all =
    let whole = has-own [] (c ∷ cs) span all in
    let first = All-head (λ d. (has (c ∷ cs) d ≡ true) × (lies_in span d ≡ true)) c cs whole in
    tie-in span row (c ∷ cs) c cs agrees first.0 first.1 (All-tail (λ d. (has (c ∷ cs) d ≡ true) × (lies_in span d ≡ true)) c cs whole)

ties-append : (row : Row) (a b : List (ℕ × ℕ)) → all_hold (map tie_test a) row ≡ true → all_hold (map tie_test b) row ≡ true → all_hold (map tie_test (a ++ b)) row ≡ true
ties-append row [] b h k = k
ties-append row (t ∷ a) b h k =
    let parts = both (holds (tie_test t) row) (all_hold (map tie_test a) row) h in
    λ i. parts.0 i && ties-append row a b parts.1 k i

all-ties : (span : Span) (row : Row) (vs : List (List ℕ)) → EachOf (AgreesIn span (value_at row)) vs → All (All (λ d. lies_in span d ≡ true)) vs → all_hold (map tie_test (flat_map ties_in vs)) row ≡ true
all-ties span row [] each all = refl
all-ties span row (v ∷ vs) each all =
    ap (λ ts. all_hold (map tie_test ts) row) (flat_map-cons ties_in v vs)
    ∙ ties-append row (ties_in v) (flat_map ties_in vs) (variable-ties span row v each.0 (All-head (All (λ d. lies_in span d ≡ true)) v vs all))
    (all-ties span row vs each.1 (All-tail (All (λ d. lies_in span d ≡ true)) v vs all))

-- the ties hold on a row just where its classes agree, in a span with all columns
pub ties-all : (shape : Shape) → is_shape shape ≡ true → (row : Row) (span : Span) → span.from ≡ 0 → span.to ≡ sum (widths_of shape)
    → classes_agree (ties_of shape) (columns_in span) row ≡ all_hold (map tie_test (ties_of shape)) row
ties-all shape shaped row span from to =
    iff-eq (classes_agree (ties_of shape) (columns_in span) row) (all_hold (map tie_test (ties_of shape)) row)
    (λ h. all-ties span row shape.variables (variables-agree (ties_of shape) span row h shape.variables (λ pair k. k)) inside)
    (λ h. ties-agree span row row (λ c l m. refl) (ties_of shape) (agreeing row (ties_of shape) h))
  where
    inside : All (All (λ d. lies_in span d ≡ true)) shape.variables
    inside k d below m e under = lies-in span (get_or (get_or shape.variables k d) m e) (omega (arith, from)) (omega (arith, to, ((shape-parts shape shaped).columns k d below).1 m e under))

-- ---- the tests of the last step

module _ (shape : Shape) (shaped : is_shape shape ≡ true) (i : ℕ) (end : suc i ≡ length shape.atoms) (front row : Row)
    (is_front : IsFront shape i front) (is_row : IsPartRow shape i row) (kept : is_kept shape i row ≡ true) where
  abbrev total : Row
  total = front ++ row

  abbrev wide : Span
  wide = span_of_prefix (widths_of shape) (suc i)

  different : all_different (flat_map (λ v. v) shape.variables) ≡ true
  different = (all-parts shape shaped).different

  all-keeps : all_hold (keeps_from 0 shape.atoms) total ≡ true
  all-keeps =
      ap (λ atoms. all_hold (keeps_from 0 atoms) total) (sym (take_all (suc i) shape.atoms (omega (arith, end))))
      ∙ keeps-hold shape different i (omega (arith, end)) front row is_front is_row kept

  wide-all : sum (take (suc i) (widths_of shape)) ≡ sum (widths_of shape)
  wide-all = ap sum (take_all (suc i) (widths_of shape) (omega (arith, end, length-map shape.atoms (λ (a : AtomTree). length a.kinds))))

  pub last-step : (arith_tests emits : List Scalar) → let step = step_shape shape i shape.plain arith_tests emits in
      all_hold (tests_of step ++ map tie_test (ties_of step)) total ≡ passes shape total
  last-step arith_tests emits =
      let step = step_shape shape i shape.plain arith_tests emits in
      list_all-append (λ e. holds e total) (tests_of step) (map tie_test (ties_of step))
      ∙ (λ j. step-tests j && all_hold (map tie_test (ties-are (pairs_at shape i) j)) total)
      ∙ ap (λ b. all_hold shape.plain total && b) (ties-step shape different i front row is_front kept ∙ ties-all shape shaped total wide refl wide-all)
      ∙ ap (λ b. b && all_hold (map tie_test (ties_of shape)) total) (sym whole-tests)
      ∙ sym (list_all-append (λ e. holds e total) (tests_of shape) (map tie_test (ties_of shape)))
    where
      step-tests : all_hold (tests_of (step_shape shape i shape.plain arith_tests emits)) total ≡ all_hold shape.plain total
      step-tests =
          let keeps = map (shifted (0 + length (before_kinds shape i))) (get_or shape.atoms i no_atom).keeps in
          let begins : 0 + length (before_kinds shape i) ≡ length front = (let long = kinds-long i shape.atoms in omega (arith, long, is_front.long)) in
          list_all-append (λ e. holds e total) (keeps ++ []) shape.plain
          ∙ ap (λ b. b && all_hold shape.plain total)
          (ap (λ es. all_hold es total) (append-nil keeps)
          ∙ ap (λ n. all_hold (map (shifted n) (get_or shape.atoms i no_atom).keeps) total) begins
          ∙ own-keeps shape different i (omega (arith, end)) front row is_front is_row kept)

      whole-tests : all_hold (tests_of shape) total ≡ all_hold shape.plain total
      whole-tests =
          list_all-append (λ e. holds e total) (keeps_from 0 shape.atoms) shape.plain
          ∙ ap (λ b. b && all_hold shape.plain total) all-keeps

-- ---- all rows of a step

filter-alike : (p q : Row → Bool) (rows : Rows) → All (λ row. p row ≡ q row) rows → filter p rows ≡ filter q rows
filter-alike p q [] all = refl
filter-alike p q (row ∷ rows) all =
    let rest = filter-alike p q rows (All-tail (λ row. p row ≡ q row) row rows all) in
    ap (λ b. cond b (row ∷ filter p rows) (filter p rows)) (All-head (λ row. p row ≡ q row) row rows all)
    ∙ (λ i. cond (q row) (row ∷ rest i) (rest i))

pub all-pairs : (P : Row → Type 0) (Good Fit : Row → Type 0) → ((front row : Row) → Good front → Fit row → P (front ++ row)) → (fronts rows : Rows) → All Good fronts → All Fit rows
    → All P (flat_map (λ front. behind_it front rows) fronts)
all-pairs P Good Fit h [] rows good fit = All-nil P
all-pairs P Good Fit h (front ∷ fronts) rows good fit =
    subst (All P) (sym (flat_map-cons (λ front. behind_it front rows) front fronts))
    (All-append P (behind_it front rows) (flat_map (λ front. behind_it front rows) fronts)
    (All-map P (λ row. front ++ row) rows (λ k d below. h front (get_or rows k d) (All-head Good front fronts good) (fit k d below)))
    (all-pairs P Good Fit h fronts rows (All-tail Good front fronts good) fit))

-- a row of an atom that is kept
pub record IsKeptRow (shape : Shape) (i : ℕ) (row : Row) : Type 0 where
  pub is_row : IsPartRow shape i row
  pub kept : is_kept shape i row ≡ true

pub step-candidates : (shape step : Shape) (P : Row → Bool) (i : ℕ)
    → ((front row : Row) → IsFront shape i front → IsKeptRow shape i row → all_hold (tests_of step ++ map tie_test (ties_of step)) (front ++ row) ≡ P (front ++ row))
    → (fronts rows : Rows) → All (IsFront shape i) fronts → All (IsKeptRow shape i) rows
    → candidates_of step (fronts ∷ rows ∷ []) ≡ filter P (flat_map (λ front. behind_it front rows) fronts)
step-candidates shape step P i same fronts rows are kept =
    ap (filter (all_hold (tests_of step ++ map tie_test (ties_of step)))) (combined-two fronts rows)
    ∙ filter-alike (all_hold (tests_of step ++ map tie_test (ties_of step))) P (flat_map (λ front. behind_it front rows) fronts)
    (all-pairs (λ row. all_hold (tests_of step ++ map tie_test (ties_of step)) row ≡ P row) (IsFront shape i) (IsKeptRow shape i) same fronts rows are kept)

module _ (shape : Shape) (shaped : is_shape shape ≡ true) (i : ℕ) (inside : i < length shape.atoms) (fronts rows : Rows) (are : All (IsFront shape i) fronts) (kept : All (IsKeptRow shape i) rows) where
  pub middle-candidates : candidates_of (middle_shape shape i) (fronts ∷ rows ∷ []) ≡ extended shape i fronts rows
  middle-candidates =
      step-candidates shape (middle_shape shape i) (passes_within (tests_of shape) (ties_of shape) (span_of_prefix (widths_of shape) (suc i))) i
      (λ front row f r. middle-step shape (all-parts shape shaped).different i inside front row f r.is_row r.kept [] (every_column (sum (take (suc i) (widths_of shape)))))
      fronts rows are kept

  pub last-candidates : suc i ≡ length shape.atoms → candidates_of (last_shape shape i) (fronts ∷ rows ∷ []) ≡ candidates (tests_of shape ++ map tie_test (ties_of shape)) (fronts ∷ rows ∷ [])
  last-candidates end =
      step-candidates shape (last_shape shape i) (passes shape) i
      (λ front row f r. last-step shape shaped i end front row f r.is_row r.kept shape.arith shape.emits) fronts rows are kept
      ∙ ap (filter (passes shape)) (sym (combined-two fronts rows))
