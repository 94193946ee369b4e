-- A local join may be given the kept rows of a pushed join.
use Rattle.std.proofs.Common.{◌≡◌, ℕ, zero, suc, ◌+◌, ◌<◌, true, List, [], ◌∷◌, map, length, refl, sym, ◌∙◌, ap, subst, arith}
use Rattle.std.specs.Prelude.{filter, All, slice_index_or, IsTrue}
use Rattle.std.specs.List.{enumerate_from}
use Rattle.std.specs.Cmp.Lexicographic.{pointwise}
use Rattle.std.proofs.lemmas.List.{length-map}
use Rattle.std.proofs.lemmas.List.Elements.{All-nil, All-cons, All-head, All-tail, All-weaker, All-filter, filter_passes}
use Rattle.std.proofs.lemmas.List.FromFn.{length-enumerate_from}
use Rattle.rel_base.specs.Relations.{same_type, type_of}
use Rattle.rel_base.specs.declared.values.ColType.{ColType}
use Rattle.myrial_ast.specs.Combinations.{Row, Rows, all_hold}
use Rattle.myrial_ast.specs.KeptRows.{reads_within, columns_in, classes_agree, span_of_item, put_at}
use Rattle.algebra.specs.Trees.{AtomTree, Shape}
use Rattle.algebra.specs.Shapes.{widths_of, tests_of, ties_of, kept_of, kept_spreads}
use Rattle.algebra.specs.ShapeConditions.{HasKinds}
use Rattle.algebra.specs.Joins.{IsPart, agrees_in}
use Rattle.algebra.specs.Rewriting.{AreTables, IsPushed, no_atom}
use Rattle.algebra.proofs.ShapeLemmas.{both}
use Rattle.placement.specs.Layouts.{PlacedRelation, placed_nothing, rows_of}
use Rattle.placement.specs.Laws.{IsPlaced}
use Rattle.row_exchange.specs.Routes.{rows_at}
use Rattle.routed_joins.specs.PlacedJoins.{placed_rows, placed_items}
use Rattle.run_laws.specs.KeptRuns.{KeptRowsAreParts}
use Rattle.run_laws.proofs.TypedLemmas.{kinds_at, parts-typed}
use Rattle.run_laws.proofs.PrefixLemmas.{keeps}
use Rattle.run_laws.proofs.KeptLemmas.{join-atoms}

abbrev spreads_from : Shape → ℕ → List (List Rows) → List (List Rows)
spreads_from t i parts = map (λ (e : ℕ × List Rows). map (kept_of t e.0) e.1) (enumerate_from i parts)

spreads-placed : (t : Shape) (i : ℕ) (parts : List (List Rows))
    → placed_items (spreads_from t i parts) ≡ map (λ (e : ℕ × PlacedRelation). placed_rows (map (kept_of t e.0) e.1.parts))
    (enumerate_from i (placed_items parts))
spreads-placed t i [] = refl
spreads-placed t i (spread ∷ parts) = ap (λ items. placed_rows (map (kept_of t i) spread) ∷ items) (spreads-placed t (i + 1) parts)

spreads-long : (t : Shape) (parts : List (List Rows)) → length (kept_spreads t parts) ≡ length parts
spreads-long t parts = length-map (enumerate_from 0 parts) (λ (e : ℕ × List Rows). map (kept_of t e.0) e.1)
    ∙ length-enumerate_from 0 parts

spreads-each : (n : ℕ) (t : Shape) (i : ℕ) (parts : List (List Rows)) → All (IsPlaced n) (placed_items parts)
    → All (λ spread. length spread ≡ n) (spreads_from t i parts)
spreads-each n t i [] all = All-nil (λ (spread : List Rows). length spread ≡ n)
spreads-each n t i (spread ∷ parts) all =
    All-cons (λ (spread : List Rows). length spread ≡ n) (map (kept_of t i) spread) (spreads_from t (i + 1) parts)
    (length-map spread (kept_of t i) ∙ (All-head (IsPlaced n) (placed_rows spread) (placed_items parts) all).each_worker)
    (spreads-each n t (i + 1) parts (All-tail (IsPlaced n) (placed_rows spread) (placed_items parts) all))

kept-at-worker : (t : Shape) (j u : ℕ) (spread : List Rows)
    → slice_index_or (map (kept_of t j) spread) u [] ≡ kept_of t j (slice_index_or spread u [])
kept-at-worker t j u [] = refl
kept-at-worker t j zero (own ∷ spread) = refl
kept-at-worker t j (suc u) (own ∷ spread) = kept-at-worker t j u spread

spreads-at : (t : Shape) (i j u : ℕ) (parts : List (List Rows))
    → rows_at (spreads_from t i parts) j u ≡ kept_of t (i + j) (rows_at parts j u)
spreads-at t i j u [] = refl
spreads-at t i zero u (spread ∷ parts) = kept-at-worker t i u spread
    ∙ ap (λ k. kept_of t k (slice_index_or spread u [])) (plus-none i)
  where
    plus-none : (i : ℕ) → i ≡ i + 0
    plus-none i = omega arith
spreads-at t i (suc j) u (spread ∷ parts) = spreads-at t (i + 1) j u parts
    ∙ ap (λ k. kept_of t k (rows_at parts j u)) (plus-one i j)
  where
    plus-one : (i j : ℕ) → (i + 1) + j ≡ i + suc j
    plus-one i j = omega arith

-- the rows of an item are what lies at each worker
items-at : (n j : ℕ) (parts : List (List Rows)) → j < length parts
    → (slice_index_or (placed_items parts) j (placed_nothing n)).parts ≡ slice_index_or parts j []
items-at n j [] low = absurd (omega (arith, low))
items-at n zero (spread ∷ parts) low = refl
items-at n (suc j) (spread ∷ parts) low = items-at n j parts (omega (arith, low))

some-row : (P : Rows → Type 0) (spread : List Rows) → P [] → All P spread → (u : ℕ) → P (slice_index_or spread u [])
some-row P [] none all u = none
some-row P (own ∷ spread) none all zero = All-head P own spread all
some-row P (own ∷ spread) none all (suc u) = some-row P spread none (All-tail P own spread all) u

kinds-same : (as_many others : List AtomTree) → map (λ (a : AtomTree). a.kinds) as_many ≡ map (λ (a : AtomTree). a.kinds) others
    → (j : ℕ)
    → kinds_at as_many j ≡ kinds_at others j
kinds-same as_many others e j = kind-in as_many j ∙ ap (λ (kinds : List (List ColType)). slice_index_or kinds j []) e
    ∙ sym (kind-in others j)
  where
    kind-in : (atoms : List AtomTree) (j : ℕ) → kinds_at atoms j ≡ slice_index_or (map (λ (a : AtomTree). a.kinds) atoms) j []
    kind-in [] j = refl
    kind-in (a ∷ atoms) zero = refl
    kind-in (a ∷ atoms) (suc j) = kind-in atoms j

-- tables of the types of some atoms are tables of others of the same types
kinds-tables : (as_many others : List AtomTree) → map (λ (a : AtomTree). a.kinds) as_many ≡ map (λ (a : AtomTree). a.kinds) others
    → (tables : List Rows)
    → AreTables as_many tables → AreTables others tables
kinds-tables [] [] e tables h = h
kinds-tables [] (b ∷ others) e tables h = absurd (cc)
kinds-tables (a ∷ as_many) [] e tables h = absurd (cc)
kinds-tables (a ∷ as_many) (b ∷ others) e [] h = absurd h
kinds-tables (a ∷ as_many) (b ∷ others) e (rows ∷ tables) h =
    let own : a.kinds ≡ b.kinds = cc in
    let rest : map (λ (a : AtomTree). a.kinds) as_many ≡ map (λ (a : AtomTree). a.kinds) others = cc in
    (subst (λ kinds. HasKinds kinds rows) own h.0, kinds-tables as_many others rest tables h.1)

-- kept rows of an atom are rows of it
kept-part : (s t : Shape) → IsPushed s t → (j : ℕ) → j < length t.atoms → (own : Rows) → HasKinds (kinds_at s.atoms j) own
    → IsPart t j (kept_of t j own)
kept-part s t pushed j low own typed =
    let of_kinds : HasKinds (kinds_at t.atoms j) own =
    subst (λ kinds. HasKinds kinds own) (kinds-same s.atoms t.atoms pushed.same.kinds j) typed in
    record {
      typed = All-filter (keeps t j) (λ row. IsTrue (pointwise (λ k v. same_type k (type_of v)) (kinds_at t.atoms j) row))
          own of_kinds;
      kept =
          subst (All (λ row. IsTrue (all_hold (slice_index_or t.atoms j no_atom).keeps row))) (pushed.keeps j own low of_kinds)
          (filter_passes (all_hold (slice_index_or t.atoms j no_atom).keeps) own);
      agreeing =
          All-weaker (λ row. keeps t j row ≡ true) (λ row. IsTrue (agrees_in t j row)) (λ row h. own-agrees row h) (kept_of t j own)
          (filter_passes (keeps t j) own);
    }
  where
    own-agrees : (row : Row) → keeps t j row ≡ true → agrees_in t j row ≡ true
    own-agrees row h =
        let span = span_of_item (widths_of t) j in
        (both (all_hold (filter (reads_within span) (tests_of t)) (put_at span.from row))
        (classes_agree (ties_of t) (columns_in span) (put_at span.from row)) h).1

pub kept_rows_are_parts : KeptRowsAreParts
kept_rows_are_parts n s t parts ready typed pushed = record {
  typed = kinds-tables s.atoms t.atoms pushed.same.kinds (rows_of (placed_items parts)) typed;
  ready = record {
    one_each = spreads-long t parts ∙ long;
    each_worker = spreads-each n t 0 parts ready.placed;
    each = λ j u low below. at j u (omega (arith, low, spreads-long t parts));
  };
  items = spreads-placed t 0 parts;
}
  where
    long : length parts ≡ length t.atoms
    long = sym (length-map parts placed_rows) ∙ ready.as_many ∙ join-atoms s t pushed.same

    own-typed : (j u : ℕ) → j < length parts → HasKinds (kinds_at s.atoms j) (rows_at parts j u)
    own-typed j u low =
        some-row (HasKinds (kinds_at s.atoms j)) (slice_index_or parts j [])
        (All-nil (λ row. IsTrue (pointwise (λ k v. same_type k (type_of v)) (kinds_at s.atoms j) row)))
        (subst (All (HasKinds (kinds_at s.atoms j))) (items-at n j parts low)
        (parts-typed n s.atoms (placed_items parts) typed ready.placed j)) u

    at : (j u : ℕ) → j < length parts → IsPart t j (rows_at (kept_spreads t parts) j u)
    at j u low =
        subst (IsPart t j) (sym (spreads-at t 0 j u parts ∙ ap (λ k. kept_of t k (rows_at parts j u)) (none-plus j)))
        (kept-part s t pushed j (omega (arith, low, long)) (rows_at parts j u) (own-typed j u low))
      where
        none-plus : (j : ℕ) → 0 + j ≡ j
        none-plus j = omega arith
