-- The pushed shape has the candidates, kept rows and prefixes of the shape, and its keeps hold of exactly its kept rows.
use Rattle.std.proofs.Common.{◌≡◌, ◌∙◌, ℕ, zero, suc, ◌+◌, ◌-◌, ◌<◌, ◌≤◌, Bool, true, false, not, List, [], ◌∷◌, ◌++◌, drop, get_or, length, map, refl, sym, ap, arith}
use Rattle.std.specs.Prelude.{◌&&◌, ◌||◌, filter, nat_le, slice_index_or, sum, take}
use Rattle.std.specs.List.{flat_map, list_all}
use Rattle.std.proofs.lemmas.Bool.{and_from, and_parts}
use Rattle.std.proofs.lemmas.List.{take_all}
use Rattle.std.proofs.lemmas.List.Folds.{list_all-append}
use Rattle.std.proofs.lemmas.List.Sums.{sum_by-cons}
use Rattle.rel_base.specs.Limits.{most_variables}
use Rattle.myrial_ast.specs.Combinations.{Row, Rows, all_hold, combined_rows}
use Rattle.myrial_ast.specs.KeptRows.{Span, classes_agree, columns_in, kept_rows, passes_within, prefix_candidates, put_at, reads_within, span_of_item, span_of_prefix}
use Rattle.myrial_ast.specs.Scalars.{Scalar, holds, value_at}
use Rattle.algebra.specs.Rewriting.{IsPushed, KeepsAreKept, atom_kinds, no_atom}
use Rattle.algebra.specs.ShapeConditions.{all_different, are_atoms, are_scalars, are_variables, is_shape, is_variable, kinds_of}
use Rattle.algebra.specs.Shapes.{candidates_of, keeps_from, kept_of, prefix_of, tests_of, tie_test, ties_of, widths_of}
use Rattle.algebra.specs.declared.shapes.Atom.{Atom}
use Rattle.algebra.specs.Trees.{AtomTree, Shape, atom_tree_of}
use Rattle.algebra.proofs.ShapeLemmas.{tie-holds}
use Rattle.plan_rewrite.specs.inner.Pushing.{is_of_one, is_tied, left_tests, lowered, own_tests, pushed, pushed_atom, pushed_from, span_at, spans_from, ties_within}
use Rattle.plan_rewrite.proofs.ListLemmas.{all-filter, all-passing, all-split, all-without, and-true, filter-same}
use Rattle.plan_rewrite.proofs.SpanLemmas.{all-lowered, all-raised}
use Rattle.plan_rewrite.proofs.TieLemmas.{each-holding, tied-agreed, tied-passes, ties-agreed, ties-exact, ties-inside, ties-pass}

-- ---- the tests of a pushed shape

module _ (tests : List Scalar) (variables : List (List ℕ)) where
  -- the keeps of all spans, over the combined row
  abbrev pub spread : List Span → List Scalar
  spread [] = []
  spread (span ∷ spans) = own_tests tests variables span ++ spread spans

  pub own-inside : (span : Span) → list_all (reads_within span) (own_tests tests variables span) ≡ true
  own-inside span =
      list_all-append (reads_within span) (filter (reads_within span) tests) (map tie_test (ties_within span variables))
      ∙ and_from (list_all (reads_within span) (filter (reads_within span) tests)) (list_all (reads_within span) (map tie_test (ties_within span variables)))
      (all-passing (reads_within span) tests) (ties-inside span variables)

  keeps-spread : (column : ℕ) (atoms : List AtomTree) → keeps_from column (pushed_from tests variables column atoms) ≡ spread (spans_from column atoms)
  keeps-spread column [] = refl
  keeps-spread column (a ∷ atoms) =
      λ i. all-raised (span_at column a) (own_tests tests variables (span_at column a)) (own-inside (span_at column a)) i
      ++ keeps-spread (column + length a.kinds) atoms i

  -- a test that the equalities within variables pass
  module _ (test : Scalar → Bool) (tied : (span : Span) → list_all test (map tie_test (ties_within span variables)) ≡ true) where
    own-passes : (span : Span) → list_all test (own_tests tests variables span) ≡ list_all test (filter (reads_within span) tests)
    own-passes span =
        list_all-append test (filter (reads_within span) tests) (map tie_test (ties_within span variables))
        ∙ ap (λ b. list_all test (filter (reads_within span) tests) && b) (tied span)
        ∙ and-true (list_all test (filter (reads_within span) tests))

    spread-passes : (spans : List Span) → list_all test (spread spans) ≡ list_all (λ span. list_all test (filter (reads_within span) tests)) spans
    spread-passes [] = refl
    spread-passes (span ∷ spans) =
        list_all-append test (own_tests tests variables span) (spread spans) ∙ (λ i. own-passes span i && spread-passes spans i)

    pub whole-passes : ((e : Scalar) → is_tied variables e ≡ true → test e ≡ true) → (spans : List Span)
        → list_all test (spread spans ++ filter (λ e. not (is_of_one spans e) && not (is_tied variables e)) tests) ≡ list_all test tests
    whole-passes equal spans =
        list_all-append test (spread spans) (filter (λ e. not (is_of_one spans e) && not (is_tied variables e)) tests)
        ∙ (λ i. spread-passes spans i && all-without test (λ e. not (is_of_one spans e)) (is_tied variables) equal tests i)
        ∙ all-split reads_within test spans tests

and-false : (a : Bool) → (a && false) ≡ false
and-false true = refl
and-false false = refl

module _ (s : Shape) where
  -- a test that the equalities of variables pass is passed by the pushed tests where it is by the tests
  all-pushed : (test : Scalar → Bool) → ((span : Span) → list_all test (map tie_test (ties_within span s.variables)) ≡ true)
      → ((e : Scalar) → is_tied s.variables e ≡ true → test e ≡ true) → list_all test (tests_of (pushed s)) ≡ list_all test (tests_of s)
  all-pushed test tied equal =
      ap (λ keeps. list_all test (keeps ++ left_tests s.atoms s.variables (tests_of s))) (keeps-spread (tests_of s) s.variables 0 s.atoms)
      ∙ whole-passes (tests_of s) s.variables test tied equal (spans_from 0 s.atoms)

  -- ---- candidates

  holding-same : (row : Row) → all_hold (tests_of (pushed s) ++ map tie_test (ties_of s)) row ≡ all_hold (tests_of s ++ map tie_test (ties_of s)) row
  holding-same row =
      list_all-append (λ e. holds e row) (tests_of (pushed s)) (map tie_test (ties_of s))
      ∙ by (all_hold (map tie_test (ties_of s)) row) refl
      ∙ sym (list_all-append (λ e. holds e row) (tests_of s) (map tie_test (ties_of s)))
    where
      by : (b : Bool) → all_hold (map tie_test (ties_of s)) row ≡ b → (all_hold (tests_of (pushed s)) row && b) ≡ (all_hold (tests_of s) row && b)
      by true e =
          ap (λ a. a && true)
          (all-pushed (λ e. holds e row)
          (λ span. ties-pass (λ x c. value_at row c ≡ x) (λ e. holds e row) (λ x a b f g. tie-holds row a b (f ∙ sym g)) span s.variables (each-holding row s.variables e))
          (tied-passes (λ x c. value_at row c ≡ x) (λ e. holds e row) (λ x a b f g. tie-holds row a b (f ∙ sym g)) s.variables (each-holding row s.variables e)))
      by false e = and-false (all_hold (tests_of (pushed s)) row) ∙ sym (and-false (all_hold (tests_of s) row))

  pub candidates-same : (tables : List Rows) → candidates_of s tables ≡ candidates_of (pushed s) tables
  candidates-same tables =
      sym (filter-same (all_hold (tests_of (pushed s) ++ map tie_test (ties_of s))) (all_hold (tests_of s ++ map tie_test (ties_of s))) holding-same (combined_rows tables))

  -- ---- what is said of a span

  passing-same : (span : Span) (row : Row) → passes_within (tests_of (pushed s)) (ties_of s) span row ≡ passes_within (tests_of s) (ties_of s) span row
  passing-same span row = by (classes_agree (ties_of s) (columns_in span) row) refl
    where
      by : (b : Bool) → classes_agree (ties_of s) (columns_in span) row ≡ b
          → (all_hold (filter (reads_within span) (tests_of (pushed s))) row && b) ≡ (all_hold (filter (reads_within span) (tests_of s)) row && b)
      by true e =
          ap (λ a. a && true)
          (all-filter (λ e. holds e row) (reads_within span) (tests_of (pushed s))
          ∙ all-pushed (λ e. not (reads_within span e) || holds e row) (ties-agreed span row s.variables e) (tied-agreed span row s.variables e)
          ∙ sym (all-filter (λ e. holds e row) (reads_within span) (tests_of s)))
      by false e = and-false (all_hold (filter (reads_within span) (tests_of (pushed s))) row) ∙ sym (and-false (all_hold (filter (reads_within span) (tests_of s)) row))

  pub pushed-widths : widths_of (pushed s) ≡ widths_of s
  pushed-widths = each 0 s.atoms
    where
      each : (column : ℕ) (atoms : List AtomTree)
          → map (λ (a : AtomTree). length a.kinds) (pushed_from (tests_of s) s.variables column atoms) ≡ map (λ (a : AtomTree). length a.kinds) atoms
      each column [] = refl
      each column (a ∷ atoms) = ap (λ ws. length a.kinds ∷ ws) (each (column + length a.kinds) atoms)

  pub pushed-kinds : atom_kinds s ≡ atom_kinds (pushed s)
  pushed-kinds = each 0 s.atoms
    where
      each : (column : ℕ) (atoms : List AtomTree)
          → map (λ (a : AtomTree). a.kinds) atoms ≡ map (λ (a : AtomTree). a.kinds) (pushed_from (tests_of s) s.variables column atoms)
      each column [] = refl
      each column (a ∷ atoms) = ap (λ ks. a.kinds ∷ ks) (each (column + length a.kinds) atoms)

  -- the kept rows of the pushed shape, by the columns of the shape
  kept-pushed : (j : ℕ) (rows : Rows)
      → kept_of (pushed s) j rows
      ≡ filter (λ row. passes_within (tests_of (pushed s)) (ties_of s) (span_of_item (widths_of s) j) (put_at (sum (take j (widths_of s))) row)) rows
  kept-pushed j rows = ap (λ ws. kept_rows ws (tests_of (pushed s)) (ties_of s) j rows) pushed-widths

  pub kept-same : (j : ℕ) (rows : Rows) → kept_of s j rows ≡ kept_of (pushed s) j rows
  kept-same j rows =
      sym (kept-pushed j rows
      ∙ filter-same (λ row. passes_within (tests_of (pushed s)) (ties_of s) (span_of_item (widths_of s) j) (put_at (sum (take j (widths_of s))) row))
      (λ row. passes_within (tests_of s) (ties_of s) (span_of_item (widths_of s) j) (put_at (sum (take j (widths_of s))) row))
      (λ row. passing-same (span_of_item (widths_of s) j) (put_at (sum (take j (widths_of s))) row)) rows)

  pub prefix-same : (i : ℕ) (tables : List Rows) → prefix_of s i tables ≡ prefix_of (pushed s) i tables
  prefix-same i tables =
      sym (ap (λ ws. prefix_candidates ws (tests_of (pushed s)) (ties_of s) i tables) pushed-widths
      ∙ filter-same (passes_within (tests_of (pushed s)) (ties_of s) (span_of_prefix (widths_of s) i)) (passes_within (tests_of s) (ties_of s) (span_of_prefix (widths_of s) i))
      (λ row. passing-same (span_of_prefix (widths_of s) i) row) (combined_rows (take i tables)))

-- the first atom is pushed, and then the others
pub pushed-first : (tests : List Scalar) (variables : List (List ℕ)) (column : ℕ) (atoms : List Atom) (a : Atom) → a ≡ get_or atoms 0 a → 1 ≤ length atoms
    → (made : Atom) (span : Span) → atom_tree_of made ≡ pushed_atom tests variables span (atom_tree_of a) → span ≡ span_at column (atom_tree_of a)
    → atom_tree_of made ∷ pushed_from tests variables span.to (map atom_tree_of (take (length atoms - 1) (drop 1 atoms)))
    ≡ pushed_from tests variables column (map atom_tree_of atoms)
pushed-first tests variables column [] a at some made span e f = absurd (omega (arith, some))
pushed-first tests variables column (b ∷ atoms) a at some made span e f =
    let all : take (length (b ∷ atoms) - 1) atoms ≡ atoms = take_all (length (b ∷ atoms) - 1) atoms (omega arith) in
    let own : span ≡ span_at column (atom_tree_of b) = f ∙ ap (λ x. span_at column (atom_tree_of x)) at in
    let made_own : atom_tree_of made ≡ pushed_atom tests variables (span_at column (atom_tree_of b)) (atom_tree_of b) =
    e ∙ (λ i. pushed_atom tests variables (own i) (atom_tree_of (at i))) in
    λ i. made_own i ∷ pushed_from tests variables (own i).to (map atom_tree_of (all i))

-- ---- keeps

sum-cons : (x : ℕ) (xs : List ℕ) → sum (x ∷ xs) ≡ x + sum xs
sum-cons x xs = sum_by-cons (λ y. y) x xs

module _ (tests : List Scalar) (variables : List (List ℕ)) where
  -- the keeps of atoms with these widths, of which the first begins at a column
  abbrev keeps_at : ℕ → ℕ → List Scalar
  keeps_at from to = map (lowered from) (own_tests tests variables (record { from = from; to = to }))

  atom-keeps : (column : ℕ) (atoms : List AtomTree) (j : ℕ) → j < length (pushed_from tests variables column atoms)
      → (slice_index_or (pushed_from tests variables column atoms) j no_atom).keeps
      ≡ keeps_at (column + sum (take j (map (λ (a : AtomTree). length a.kinds) atoms))) (column + sum (take (suc j) (map (λ (a : AtomTree). length a.kinds) atoms)))
  atom-keeps column [] j l = absurd (omega (arith, l))
  atom-keeps column (a ∷ atoms) zero l =
      let from : column ≡ column + sum (take 0 (length a.kinds ∷ map (λ (a : AtomTree). length a.kinds) atoms)) = omega arith in
      let to : column + length a.kinds ≡ column + sum (take 1 (length a.kinds ∷ map (λ (a : AtomTree). length a.kinds) atoms)) = omega (arith, sum-cons (length a.kinds) []) in
      λ i. keeps_at (from i) (to i)
  atom-keeps column (a ∷ atoms) (suc j) l =
      let ws = map (λ (a : AtomTree). length a.kinds) atoms in
      let from : column + length a.kinds + sum (take j ws) ≡ column + sum (take (suc j) (length a.kinds ∷ ws)) = omega (arith, sum-cons (length a.kinds) (take j ws)) in
      let to : column + length a.kinds + sum (take (suc j) ws) ≡ column + sum (take (suc (suc j)) (length a.kinds ∷ ws)) = omega (arith, sum-cons (length a.kinds) (take (suc j) ws)) in
      atom-keeps (column + length a.kinds) atoms j (omega (arith, l)) ∙ (λ i. keeps_at (from i) (to i))

zero-plus : (n : ℕ) → 0 + n ≡ n
zero-plus n = omega arith

module _ (s : Shape) (different : all_different (flat_map (λ v. v) s.variables) ≡ true) where
  -- the keeps of a span hold of a row exactly where it passes what is said of the span
  own-exact : (span : Span) (row : Row) → all_hold (map (lowered span.from) (own_tests (tests_of s) s.variables span)) row
      ≡ passes_within (tests_of (pushed s)) (ties_of s) span (put_at span.from row)
  own-exact span row =
      all-lowered span row (own_tests (tests_of s) s.variables span) (own-inside (tests_of s) s.variables span)
      ∙ list_all-append (λ e. holds e (put_at span.from row)) (filter (reads_within span) (tests_of s)) (map tie_test (ties_within span s.variables))
      ∙ ap (λ b. all_hold (filter (reads_within span) (tests_of s)) (put_at span.from row) && b) (ties-exact span (put_at span.from row) s.variables different)
      ∙ sym (passing-same s span (put_at span.from row))

  pub keeps-kept : KeepsAreKept (pushed s)
  keeps-kept j rows l typed =
      let span = span_of_item (widths_of s) j in
      let keeps : (slice_index_or (pushed_from (tests_of s) s.variables 0 s.atoms) j no_atom).keeps ≡ map (lowered span.from) (own_tests (tests_of s) s.variables span) =
      atom-keeps (tests_of s) s.variables 0 s.atoms j l
      ∙ (λ i. keeps_at (tests_of s) s.variables (zero-plus (sum (take j (widths_of s))) i) (zero-plus (sum (take (suc j) (widths_of s))) i)) in
      ap (λ ks. filter (all_hold ks) rows) keeps
      ∙ filter-same (all_hold (map (lowered span.from) (own_tests (tests_of s) s.variables span)))
      (λ row. passes_within (tests_of (pushed s)) (ties_of s) span (put_at span.from row)) (own-exact span) rows
      ∙ sym (kept-pushed s j rows)

-- no column of a well-formed shape is of two variables
pub shape-different : (s : Shape) → is_shape s ≡ true → all_different (flat_map (λ v. v) s.variables) ≡ true
shape-different s h =
    let front = and_parts (are_atoms s.atoms && are_variables (kinds_of s) (widths_of s) s.variables) (are_scalars (kinds_of s) s.plain s.arith s.emits) h in
    let middle = and_parts (are_atoms s.atoms) (are_variables (kinds_of s) (widths_of s) s.variables) front.0 in
    (and_parts (nat_le (length s.variables) most_variables && list_all (is_variable (kinds_of s) (widths_of s)) s.variables) (all_different (flat_map (λ v. v) s.variables)) middle.1).1

pub is-pushed : (s : Shape) → is_shape s ≡ true → IsPushed s (pushed s)
is-pushed s h = record {
  same = record {
    kinds = pushed-kinds s;
    variables = refl;
    arith = refl;
    emits = refl;
    candidates = λ tables typed. candidates-same s tables;
    kept = λ j tables typed. kept-same s j (slice_index_or tables j []);
    prefixes = λ i tables typed. prefix-same s i tables;
  };
  keeps = keeps-kept s (shape-different s h);
}
