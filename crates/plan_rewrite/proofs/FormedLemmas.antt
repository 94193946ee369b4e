-- The pushed shape is well formed.
use Rattle.std.proofs.Common.{◌≡◌, ◌∙◌, ℕ, zero, suc, ◌+◌, ◌<◌, true, not, List, [], ◌∷◌, ◌++◌, length, map, refl, sym, ap, arith, Some}
use Rattle.std.specs.Prelude.{◌&&◌, filter, nat_le, nat_lt, option_and_then, slice_get}
use Rattle.std.specs.List.{flat_map, list_all}
use Rattle.std.proofs.lemmas.Bool.{and_from, and_parts, ltb-true}
use Rattle.std.proofs.lemmas.List.{append_assoc, length-append}
use Rattle.std.proofs.lemmas.List.Folds.{list_all-append}
use Rattle.rel_base.specs.Limits.{most_items, most_variables}
use Rattle.rel_base.specs.Relations.{same_type}
use Rattle.rel_base.specs.declared.values.ColType.{ColType}
use Rattle.rel_base.specs.declared.values.ColType.TheVariants as kind
use Rattle.myrial_ast.specs.Classes.{joins_items}
use Rattle.myrial_ast.specs.KeptRows.{Span, reads_within}
use Rattle.myrial_ast.specs.Scalars.{Scalar}
use Rattle.algebra.specs.ShapeConditions.{all_different, are_atoms, are_of, are_scalars, are_variables, is_atom, is_kind, is_plain_test, is_shape, is_truth, is_typed, is_variable, kind_at, kinds_of, where_both}
use Rattle.algebra.specs.Shapes.{keeps_from, shifted, tests_of, tie_test, widths_of}
use Rattle.algebra.specs.Trees.{AtomTree, Shape}
use Rattle.algebra.proofs.TypeLemmas.{same_type-equal}
use Rattle.plan_rewrite.specs.inner.Pushing.{is_of_one, is_tied, left_tests, lowered, own_tests, pushed, pushed_atom, pushed_from, span_at, spans_from, ties_within}
use Rattle.plan_rewrite.proofs.ListLemmas.{Each, all-kept}
use Rattle.plan_rewrite.proofs.PushingLemmas.{own-inside, pushed-widths}
use Rattle.plan_rewrite.proofs.SpanLemmas.{lowered-tests, shifted-tests}
use Rattle.plan_rewrite.proofs.TieLemmas.{OneOf, ties-pass}

-- ---- equalities of columns of one type

-- a column of this type
abbrev HasKind : List ColType → ColType → ℕ → Type 0
HasKind kinds k c = slice_get kinds c ≡ Some k

get-in : (kinds : List ColType) (c : ℕ) → c < length kinds → slice_get kinds c ≡ Some (kind_at kinds c)
get-in [] c l = absurd (omega (arith, l))
get-in (k ∷ kinds) zero l = refl
get-in (k ∷ kinds) (suc c) l = get-in kinds c (omega (arith, l))

tie-test : (kinds : List ColType) (k : ColType) (a b : ℕ) → HasKind kinds k a → HasKind kinds k b → is_plain_test kinds (tie_test (a, b)) ≡ true
tie-test kinds k a b e f = (λ i. is_kind kind.Bool (option_and_then (λ k. where_both kind.Bool k (e i) (f i)) (e i))) ∙ by k
  where
    by : (k : ColType) → is_kind kind.Bool (where_both kind.Bool k (Some k) (Some k)) ≡ true
    by kind.Int = refl
    by kind.Str = refl
    by kind.Bool = refl

variable-kind : (kinds : List ColType) (widths : List ℕ) (v : List ℕ) → is_variable kinds widths v ≡ true → OneOf (HasKind kinds) v
variable-kind kinds widths [] h = (kind.Int, tt)
variable-kind kinds widths (c ∷ cs) h =
    let first = and_parts (list_all (λ d. nat_lt d (length kinds)) (c ∷ cs) && list_all (λ d. are_of kinds (kind_at kinds d) (c ∷ cs)) (c ∷ cs)) (joins_items widths (c ∷ cs)) h in
    let parts = and_parts (list_all (λ d. nat_lt d (length kinds)) (c ∷ cs)) (list_all (λ d. are_of kinds (kind_at kinds d) (c ∷ cs)) (c ∷ cs)) first.0 in
    let own = and_parts (are_of kinds (kind_at kinds c) (c ∷ cs)) (list_all (λ d. are_of kinds (kind_at kinds d) (c ∷ cs)) cs) parts.1 in
    (kind_at kinds c, each (c ∷ cs) parts.0 own.0)
  where
    each : (ds : List ℕ) → list_all (λ d. nat_lt d (length kinds)) ds ≡ true → are_of kinds (kind_at kinds c) ds ≡ true → Each (HasKind kinds (kind_at kinds c)) ds
    each [] l e = tt
    each (d ∷ ds) l e =
        let low = and_parts (nat_lt d (length kinds)) (list_all (λ d. nat_lt d (length kinds)) ds) l in
        let one = and_parts (same_type (kind_at kinds c) (kind_at kinds d)) (are_of kinds (kind_at kinds c) ds) e in
        (get-in kinds d (ltb-true d (length kinds) low.0) ∙ ap Some (sym (same_type-equal (kind_at kinds c) (kind_at kinds d) one.0)), each ds low.1 one.1)

each-kind : (kinds : List ColType) (widths : List ℕ) (variables : List (List ℕ)) → list_all (is_variable kinds widths) variables ≡ true → Each (OneOf (HasKind kinds)) variables
each-kind kinds widths [] h = tt
each-kind kinds widths (v ∷ vs) h =
    let parts = and_parts (is_variable kinds widths v) (list_all (is_variable kinds widths) vs) h in (variable-kind kinds widths v parts.0, each-kind kinds widths vs parts.1)

-- ---- atoms

abbrev kinds_in : List AtomTree → List ColType
kinds_in atoms = flat_map (λ (a : AtomTree). a.kinds) atoms

-- the keeps of well-formed atoms are tests of the combined row
keeps-typed : (kinds front : List ColType) (atoms : List AtomTree) → kinds ≡ front ++ kinds_in atoms → list_all is_atom atoms ≡ true
    → list_all (is_plain_test kinds) (keeps_from (length front) atoms) ≡ true
keeps-typed kinds front [] e h = refl
keeps-typed kinds front (a ∷ atoms) e h =
    let parts = and_parts (is_atom a) (list_all is_atom atoms) h in
    let own = and_parts (nat_lt 0 (length a.kinds)) (list_all (is_plain_test a.kinds) a.keeps) parts.0 in
    let here : list_all (is_plain_test kinds) (map (shifted (length front)) a.keeps) ≡ true =
    ap (λ ks. list_all (is_plain_test ks) (map (shifted (length front)) a.keeps)) e ∙ shifted-tests front a.kinds (kinds_in atoms) a.keeps own.1 in
    let rest : list_all (is_plain_test kinds) (keeps_from (length front + length a.kinds) atoms) ≡ true =
    ap (λ n. list_all (is_plain_test kinds) (keeps_from n atoms)) (sym (length-append front a.kinds))
    ∙ keeps-typed kinds (front ++ a.kinds) atoms (e ∙ sym (append_assoc front a.kinds (kinds_in atoms))) parts.1 in
    list_all-append (is_plain_test kinds) (map (shifted (length front)) a.keeps) (keeps_from (length front + length a.kinds) atoms)
    ∙ and_from (list_all (is_plain_test kinds) (map (shifted (length front)) a.keeps)) (list_all (is_plain_test kinds) (keeps_from (length front + length a.kinds) atoms)) here rest

module _ (kinds : List ColType) (widths : List ℕ) (tests : List Scalar) (variables : List (List ℕ)) (typed : list_all (is_plain_test kinds) tests ≡ true)
    (joined : list_all (is_variable kinds widths) variables ≡ true) where
  own-typed : (span : Span) → list_all (is_plain_test kinds) (own_tests tests variables span) ≡ true
  own-typed span =
      list_all-append (is_plain_test kinds) (filter (reads_within span) tests) (map tie_test (ties_within span variables))
      ∙ and_from (list_all (is_plain_test kinds) (filter (reads_within span) tests)) (list_all (is_plain_test kinds) (map tie_test (ties_within span variables)))
      (all-kept (is_plain_test kinds) (reads_within span) tests typed)
      (ties-pass (HasKind kinds) (is_plain_test kinds) (λ k a b e f. tie-test kinds k a b e f) span variables (each-kind kinds widths variables joined))

  atoms-formed : (front : List ColType) (atoms : List AtomTree) → kinds ≡ front ++ kinds_in atoms → list_all is_atom atoms ≡ true
      → list_all is_atom (pushed_from tests variables (length front) atoms) ≡ true
  atoms-formed front [] e h = refl
  atoms-formed front (a ∷ atoms) e h =
      let parts = and_parts (is_atom a) (list_all is_atom atoms) h in
      let own = and_parts (nat_lt 0 (length a.kinds)) (list_all (is_plain_test a.kinds) a.keeps) parts.0 in
      let span = span_at (length front) a in
      let keeps : list_all (is_plain_test a.kinds) (map (lowered (length front)) (own_tests tests variables span)) ≡ true =
      lowered-tests front a.kinds (kinds_in atoms) (own_tests tests variables span) (own-inside tests variables span)
      ∙ ap (λ ks. list_all (is_plain_test ks) (own_tests tests variables span)) (sym e) ∙ own-typed span in
      let rest : list_all is_atom (pushed_from tests variables (length front + length a.kinds) atoms) ≡ true =
      ap (λ n. list_all is_atom (pushed_from tests variables n atoms)) (sym (length-append front a.kinds))
      ∙ atoms-formed (front ++ a.kinds) atoms (e ∙ sym (append_assoc front a.kinds (kinds_in atoms))) parts.1 in
      and_from (is_atom (pushed_atom tests variables span a)) (list_all is_atom (pushed_from tests variables (length front + length a.kinds) atoms))
      (and_from (nat_lt 0 (length a.kinds)) (list_all (is_plain_test a.kinds) (map (lowered (length front)) (own_tests tests variables span))) own.0 keeps) rest

-- ---- shapes

pushed-length : (tests : List Scalar) (variables : List (List ℕ)) (column : ℕ) (atoms : List AtomTree) → length atoms ≡ length (pushed_from tests variables column atoms)
pushed-length tests variables column [] = refl
pushed-length tests variables column (a ∷ atoms) = ap suc (pushed-length tests variables (column + length a.kinds) atoms)

kinds-pushed : (tests : List Scalar) (variables : List (List ℕ)) (column : ℕ) (atoms : List AtomTree) → kinds_in (pushed_from tests variables column atoms) ≡ kinds_in atoms
kinds-pushed tests variables column [] = refl
kinds-pushed tests variables column (a ∷ atoms) = ap (λ ks. a.kinds ++ ks) (kinds-pushed tests variables (column + length a.kinds) atoms)

pub pushed-formed : (s : Shape) → is_shape s ≡ true → is_shape (pushed s) ≡ true
pushed-formed s h =
    let kinds = kinds_of s in
    let front = and_parts (are_atoms s.atoms && are_variables kinds (widths_of s) s.variables) (are_scalars kinds s.plain s.arith s.emits) h in
    let middle = and_parts (are_atoms s.atoms) (are_variables kinds (widths_of s) s.variables) front.0 in
    let atoms = and_parts (nat_lt 0 (length s.atoms) && nat_le (length s.atoms) most_items) (list_all is_atom s.atoms) middle.0 in
    let variables = and_parts (nat_le (length s.variables) most_variables && list_all (is_variable kinds (widths_of s)) s.variables) (all_different (flat_map (λ v. v) s.variables)) middle.1 in
    let joined = and_parts (nat_le (length s.variables) most_variables) (list_all (is_variable kinds (widths_of s)) s.variables) variables.0 in
    let scalars = and_parts (list_all (is_plain_test kinds) s.plain && list_all (is_truth kinds) s.arith) (list_all (is_typed kinds) s.emits) front.1 in
    let plain = and_parts (list_all (is_plain_test kinds) s.plain) (list_all (is_truth kinds) s.arith) scalars.0 in
    let tests : list_all (is_plain_test kinds) (tests_of s) ≡ true =
    list_all-append (is_plain_test kinds) (keeps_from 0 s.atoms) s.plain
    ∙ and_from (list_all (is_plain_test kinds) (keeps_from 0 s.atoms)) (list_all (is_plain_test kinds) s.plain) (keeps-typed kinds [] s.atoms refl atoms.1) plain.0 in
    let same : kinds_of (pushed s) ≡ kinds = kinds-pushed (tests_of s) s.variables 0 s.atoms in
    let many = pushed-length (tests_of s) s.variables 0 s.atoms in
    let each : list_all is_atom (pushed s).atoms ≡ true = atoms-formed kinds (widths_of s) (tests_of s) s.variables tests joined.1 [] s.atoms refl atoms.1 in
    let left : list_all (is_plain_test kinds) (left_tests s.atoms s.variables (tests_of s)) ≡ true =
    all-kept (is_plain_test kinds) (λ e. not (is_of_one (spans_from 0 s.atoms) e) && not (is_tied s.variables e)) (tests_of s) tests in
    let first : are_atoms (pushed s).atoms ≡ true =
    (λ i. (nat_lt 0 (sym many i) && nat_le (sym many i) most_items) && each i)
    ∙ and_from (nat_lt 0 (length s.atoms) && nat_le (length s.atoms) most_items) true atoms.0 refl in
    let second : are_variables (kinds_of (pushed s)) (widths_of (pushed s)) s.variables ≡ true =
    (λ i. are_variables (same i) (pushed-widths s i) s.variables) ∙ middle.1 in
    let third : are_scalars (kinds_of (pushed s)) (pushed s).plain s.arith s.emits ≡ true =
    (λ i. are_scalars (same i) (pushed s).plain s.arith s.emits)
    ∙ and_from (list_all (is_plain_test kinds) (left_tests s.atoms s.variables (tests_of s)) && list_all (is_truth kinds) s.arith) (list_all (is_typed kinds) s.emits)
    (and_from (list_all (is_plain_test kinds) (left_tests s.atoms s.variables (tests_of s))) (list_all (is_truth kinds) s.arith) left plain.1) scalars.1 in
    and_from (are_atoms (pushed s).atoms && are_variables (kinds_of (pushed s)) (widths_of (pushed s)) s.variables) (are_scalars (kinds_of (pushed s)) (pushed s).plain s.arith s.emits)
    (and_from (are_atoms (pushed s).atoms) (are_variables (kinds_of (pushed s)) (widths_of (pushed s)) s.variables) first second) third
