-- The candidates of prefixes of kept rows are those of all rows.
use Rattle.std.proofs.Common.{◌≡◌, ℕ, zero, suc, ◌+◌, ◌<◌, ◌≤◌, ◌==◌, Bool, true, cond, List, [], ◌∷◌, map, length, refl, sym, ◌∙◌, ap, arith}
use Rattle.std.specs.Prelude.{filter, slice_index_or, set}
use Rattle.std.specs.List.{enumerate_from}
use Rattle.std.proofs.lemmas.Bool.Decides.{nat_tests}
use Rattle.std.proofs.lemmas.List.{length-map}
use Rattle.std.proofs.lemmas.List.Elements.{All-filter}
use Rattle.std.proofs.lemmas.List.FromFn.{length-enumerate_from}
use Rattle.hash_partition.specs.Hashing.{home_of}
use Rattle.myrial_ast.specs.Combinations.{Row, Rows}
use Rattle.myrial_ast.specs.KeptRows.{passes_within, span_of_item, put_at}
use Rattle.algebra.specs.Trees.{Shape}
use Rattle.algebra.specs.Shapes.{widths_of, tests_of, ties_of, kept_of, prefix_of}
use Rattle.placement.specs.Layouts.{prefix_key, item_key}
use Rattle.placement.specs.Laws.{AreWide, extended, prefix_is_at, item_is_at}
use Rattle.bag_laws.proofs.PartialLemmas.{filter-inside}
use Rattle.placement.proofs.PrefixLemmas.{prefixes_meet_by_key}
use Rattle.placement.proofs.ReceivedLemmas.{prefix-one}
use Rattle.placement.proofs.ScriptLemmas.{home_of-lt}

-- the test of the kept rows of an atom
abbrev pub keeps : Shape → ℕ → Row → Bool
keeps shape j row = passes_within (tests_of shape) (ties_of shape) (span_of_item (widths_of shape) j)
    (put_at (span_of_item (widths_of shape) j).from row)

-- kept rows are kept
pub kept-again : (shape : Shape) (j : ℕ) (rows : Rows) → kept_of shape j (kept_of shape j rows) ≡ kept_of shape j rows
kept-again shape j rows = filter-inside (keeps shape j) (keeps shape j) (λ row h. h) rows

-- the kept rows of each table
abbrev pub kept_from : Shape → ℕ → List Rows → List Rows
kept_from shape i tables = map (λ (e : ℕ × Rows). kept_of shape e.0 e.1) (enumerate_from i tables)

pub tables-kept-long : (shape : Shape) (i : ℕ) (tables : List Rows) → length (kept_from shape i tables) ≡ length tables
tables-kept-long shape i tables = length-map (enumerate_from i tables) (λ (e : ℕ × Rows). kept_of shape e.0 e.1)
    ∙ length-enumerate_from i tables

tables-kept-at : (shape : Shape) (i k : ℕ) (tables : List Rows)
    → slice_index_or (kept_from shape i tables) k [] ≡ kept_of shape (i + k) (slice_index_or tables k [])
tables-kept-at shape i k [] = refl
tables-kept-at shape i zero (rows ∷ tables) = ap (λ j. kept_of shape j rows) (plus-none i)
  where
    plus-none : (i : ℕ) → i ≡ i + 0
    plus-none i = omega arith
tables-kept-at shape i (suc k) (rows ∷ tables) = tables-kept-at shape (i + 1) k tables
    ∙ ap (λ j. kept_of shape j (slice_index_or tables k [])) (plus-one i k)
  where
    plus-one : (i k : ℕ) → (i + 1) + k ≡ i + suc k
    plus-one i k = omega arith

pub tables-kept-set : (shape : Shape) (i j : ℕ) (tables : List Rows) (own : Rows)
    → kept_from shape i (set tables j own) ≡ set (kept_from shape i tables) j (kept_of shape (i + j) own)
tables-kept-set shape i j [] own = refl
tables-kept-set shape i zero (rows ∷ tables) own = ap (λ k. kept_of shape k own ∷ kept_from shape (i + 1) tables) (plus-none i)
  where
    plus-none : (i : ℕ) → i ≡ i + 0
    plus-none i = omega arith
tables-kept-set shape i (suc j) (rows ∷ tables) own =
    ap (λ ts. kept_of shape i rows ∷ ts)
    (tables-kept-set shape (i + 1) j tables own
    ∙ ap (λ k. set (kept_from shape (i + 1) tables) j (kept_of shape k own)) (plus-one i j))
  where
    plus-one : (i j : ℕ) → (i + 1) + j ≡ i + suc j
    plus-one i j = omega arith

tables-kept-wide : (shape : Shape) (i : ℕ) (widths : List ℕ) (tables : List Rows) → AreWide widths tables
    → AreWide widths (kept_from shape i tables)
tables-kept-wide shape i [] [] h = tt
tables-kept-wide shape i [] (rows ∷ tables) h = absurd h
tables-kept-wide shape i (width ∷ widths) [] h = absurd h
tables-kept-wide shape i (width ∷ widths) (rows ∷ tables) h =
    (All-filter (keeps shape i) (λ row. length row ≡ width) rows h.0, tables-kept-wide shape (i + 1) widths tables h.1)

-- ---- prefixes

filter-all : {X : Type 0} (p : X → Bool) → ((x : X) → p x ≡ true) → (xs : List X) → filter p xs ≡ xs
filter-all p h [] = refl
filter-all p h (x ∷ xs) = ap (λ b. cond b (x ∷ filter p xs) (filter p xs)) (h x) ∙ ap (λ ys. x ∷ ys) (filter-all p h xs)

-- a longer prefix is made of a shorter one and of kept rows
extended-all : (shape : Shape) (i : ℕ) (tables : List Rows) → AreWide (widths_of shape) tables → 0 < i → i < length tables
    → prefix_of shape (suc i) tables ≡ extended shape i (prefix_of shape i tables) (kept_of shape i (slice_index_or tables i []))
extended-all shape i tables wide some low =
    sym (filter-all (prefix_is_at 0 1 shape i 0)
    (λ row. here (home_of 0 (prefix_key shape i row) 1) (home_of-lt 0 (prefix_key shape i row) 1 (omega arith)))
    (prefix_of shape (suc i) tables))
    ∙ prefixes_meet_by_key 0 1 shape i tables wide some low 0
    ∙ (λ k. extended shape i
    (filter-all (prefix_is_at 0 1 shape i 0)
    (λ row. here (home_of 0 (prefix_key shape i row) 1) (home_of-lt 0 (prefix_key shape i row) 1 (omega arith)))
    (prefix_of shape i tables) k)
    (filter-all (item_is_at 0 1 shape i 0)
    (λ row. here (home_of 0 (item_key shape i row) 1) (home_of-lt 0 (item_key shape i row) 1 (omega arith)))
    (kept_of shape i (slice_index_or tables i [])) k))
  where
    here : (home : ℕ) → home < 1 → (home == 0) ≡ true
    here home l = grind (arith, nat_tests, l)

prefixes-kept : (shape : Shape) (i : ℕ) (tables : List Rows) → AreWide (widths_of shape) tables → suc i ≤ length tables
    → prefix_of shape (suc i) tables ≡ prefix_of shape (suc i) (kept_from shape 0 tables)
prefixes-kept shape zero [] wide low = absurd (omega (arith, low))
prefixes-kept shape zero (rows ∷ tables) wide low =
    prefix-one shape rows tables ∙ sym (kept-again shape 0 rows)
    ∙ sym (prefix-one shape (kept_of shape 0 rows) (kept_from shape 1 tables))
prefixes-kept shape (suc i) tables wide low =
    let kept = kept_from shape 0 tables in
    let own : kept_of shape (suc i) (slice_index_or tables (suc i) []) ≡ kept_of shape (suc i) (slice_index_or kept (suc i) []) =
    sym (kept-again shape (suc i) (slice_index_or tables (suc i) []))
    ∙ ap (kept_of shape (suc i))
    (sym (tables-kept-at shape 0 (suc i) tables ∙ ap (λ j. kept_of shape j (slice_index_or tables (suc i) [])) (none-plus (suc i))))
    in
    extended-all shape (suc i) tables wide (omega arith) (omega (arith, low))
    ∙ (λ k. extended shape (suc i) (prefixes-kept shape i tables wide (omega (arith, low)) k) (own k))
    ∙ sym (extended-all shape (suc i) kept (tables-kept-wide shape 0 (widths_of shape) tables wide) (omega arith)
    (omega (arith, low, tables-kept-long shape 0 tables)))
  where
    none-plus : (j : ℕ) → 0 + j ≡ j
    none-plus j = omega arith

pub prefix-kept : (shape : Shape) (i : ℕ) (tables : List Rows) → AreWide (widths_of shape) tables → 1 ≤ i → i ≤ length tables
    → prefix_of shape i tables ≡ prefix_of shape i (kept_from shape 0 tables)
prefix-kept shape zero tables wide some low = absurd (omega (arith, some))
prefix-kept shape (suc i) tables wide some low = prefixes-kept shape i tables wide low
