-- What a worker lists of what it is given is its part of the join.
use Rattle.std.proofs.Common.{◌≡◌, ℕ, suc, ◌<◌, ◌≤◌, ◌==◌, Bool, true, false, cond, List, [], ◌∷◌, ◌++◌, map, length, refl, sym, ◌∙◌, ap, subst, arith}
use Rattle.std.specs.Prelude.{filter, All, slice_index_or, set, take, ◌&&◌}
use Rattle.std.specs.List.{flat_map}
use Rattle.std.proofs.lemmas.List.{length-map, get_or-map, take_all}
use Rattle.std.proofs.lemmas.List.Folds.{list_all-append}
use Rattle.std.proofs.lemmas.List.FromFn.{length-map-range_with_len, get_or-map-range_with_len}
use Rattle.rel_base.specs.Bags.{SameBag}
use Rattle.hash_partition.specs.Hashing.{home_of}
use Rattle.myrial_ast.specs.Scalars.{holds}
use Rattle.myrial_ast.specs.Combinations.{Row, Rows, all_hold, combined_rows, candidates, listed_from}
use Rattle.myrial_ast.specs.KeptRows.{Span, passes_within, classes_agree, columns_in, span_of_prefix}
use Rattle.bag_laws.proofs.RowPermutations.{filter_rows-same, listed_from-same}
use Rattle.algebra.specs.Trees.{Shape}
use Rattle.algebra.specs.Shapes.{widths_of, tests_of, ties_of, tie_test, candidates_of, kept_of, listed_of, prefix_of}
use Rattle.algebra.proofs.ShapeLemmas.{both}
use Rattle.placement.specs.Destinations.{meeting_cell}
use Rattle.placement.specs.Exchanges.{by_cells, by_broadcast, by_keys}
use Rattle.placement.specs.Layouts.{PlacedRelation, ByCells, ByKeys, Broadcast, placed_nothing, part, parts_by_home, rows_of, prefix_key, last_atom, staying_atom}
use Rattle.placement.specs.Laws.{IsPlaced, AreWide, prefix_is_at, extended}
use Rattle.row_exchange.specs.Moves.{moves_of, rows_given, all_given}
use Rattle.placement.specs.Receiving.{PartsAreListed}
use Rattle.placement.proofs.BroadcastLemmas.{broadcasts_list_what_they_are_given}
use Rattle.placement.proofs.CellLemmas.{passes}
use Rattle.placement.proofs.KeptLemmas.{reads-hold, ties-agree, agreeing}
use Rattle.bag_laws.proofs.PartialLemmas.{filter-inside}
use Rattle.placement.proofs.PrefixLemmas.{behind_it, combined-before}
use Rattle.placement.proofs.ReceivedLemmas.{alone, cells_list_what_they_are_given, steps_list_what_they_are_given}
use Rattle.placement.proofs.ScriptLemmas.{get_or-All, nothing_IsPlaced}

-- ---- what is listed at a worker

-- of rows by their homes
listed-at-home : (f : Rows → Rows) (n w : ℕ) (home : Row → ℕ) (rows : Rows) → w < n
    → slice_index_or (map f (parts_by_home n home rows)) w [] ≡ f (filter (λ row. home row == w) rows)
listed-at-home f n w home rows low =
    let at : ℕ → Rows = λ w. filter (λ row. home row == w) rows in
    get_or-map f (parts_by_home n home rows) w [] [] (omega (arith, low, length-map-range_with_len at 0 n))
    ∙ ap f (get_or-map-range_with_len at 0 n w w [] low (omega arith))

-- ---- two at a time: the last step

-- a row on which all tests hold passes what is said of any of its columns
pub holds-within : (shape : Shape) (span : Span) (row : Row) → passes shape row ≡ true → passes_within (tests_of shape) (ties_of shape) span row ≡ true
holds-within shape span row h =
    let parts = both (all_hold (tests_of shape) row) (all_hold (map tie_test (ties_of shape)) row)
    (sym (list_all-append (λ e. holds e row) (tests_of shape) (map tie_test (ties_of shape))) ∙ h) in
    ap (λ b. b && classes_agree (ties_of shape) (columns_in span) row) (reads-hold span row row (λ c l m. refl) (tests_of shape) parts.0)
    ∙ ties-agree span row row (λ c l m. refl) (ties_of shape) (agreeing row (ties_of shape) parts.1)

pub filter-turn : (p q : Row → Bool) (rows : Rows) → filter p (filter q rows) ≡ filter q (filter p rows)
filter-turn p q [] = refl
filter-turn p q (row ∷ rows) = by (p row) (q row) refl refl (filter-turn p q rows)
  where
    first : (b : Bool) → p row ≡ b → filter p (row ∷ filter q rows) ≡ cond b (row ∷ filter p (filter q rows)) (filter p (filter q rows))
    first b e = ap (λ c. cond c (row ∷ filter p (filter q rows)) (filter p (filter q rows))) e

    second : (b : Bool) → q row ≡ b → filter q (row ∷ filter p rows) ≡ cond b (row ∷ filter q (filter p rows)) (filter q (filter p rows))
    second b e = ap (λ c. cond c (row ∷ filter q (filter p rows)) (filter q (filter p rows))) e

    by : (a b : Bool) → p row ≡ a → q row ≡ b → filter p (filter q rows) ≡ filter q (filter p rows)
        → filter p (cond b (row ∷ filter q rows) (filter q rows)) ≡ filter q (cond a (row ∷ filter p rows) (filter p rows))
    by true true e f rest = first true e ∙ ap (λ rs. row ∷ rs) rest ∙ sym (second true f)
    by true false e f rest = rest ∙ sym (second false f)
    by false true e f rest = first false e ∙ rest
    by false false e f rest = rest

-- the combined rows of two tables
pub combined-two : (fronts lasts : Rows) → combined_rows (fronts ∷ lasts ∷ []) ≡ flat_map (λ front. behind_it front lasts) fronts
combined-two fronts lasts =
    combined-before (flat_map (λ row. map (λ rest. row ∷ rest) ([] ∷ [])) lasts) fronts
    ∙ ap (λ rows. flat_map (λ front. behind_it front rows) fronts) (combined-before ([] ∷ []) lasts ∙ alone lasts)

-- the candidates of all atoms are those of the longest prefix on which all tests hold
pub candidates-prefix : (shape : Shape) (m : ℕ) (tables : List Rows) → length tables ≤ m → filter (passes shape) (prefix_of shape m tables) ≡ candidates_of shape tables
candidates-prefix shape m tables long =
    filter-inside (passes shape) (passes_within (tests_of shape) (ties_of shape) (span_of_prefix (widths_of shape) m)) (holds-within shape (span_of_prefix (widths_of shape) m)) (combined_rows (take m tables))
    ∙ ap (λ ts. filter (passes shape) (combined_rows ts)) (take_all m tables long)

last-step : (n seed : ℕ) (shape : Shape) (items : List PlacedRelation) → 1 ≤ n → All (IsPlaced n) items → AreWide (widths_of shape) (rows_of items)
    → length items ≡ length shape.atoms → 2 ≤ length shape.atoms → (w : ℕ)
    → SameBag (candidates (tests_of shape ++ map tie_test (ties_of shape)) (rows_given (moves_of (by_keys n seed shape items (last_atom shape))) 0 w ∷ rows_given (moves_of (by_keys n seed shape items (last_atom shape))) 1 w ∷ []))
    (filter (λ row. home_of seed (prefix_key shape (last_atom shape) row) n == w) (candidates_of shape (rows_of items)))
last-step n seed shape items some all wide many two w =
    let i = last_atom shape in
    let tables = rows_of items in
    let fronts = rows_given (moves_of (by_keys n seed shape items i)) 0 w in
    let lasts = rows_given (moves_of (by_keys n seed shape items i)) 1 w in
    let K : Row → Bool = prefix_is_at seed n shape i w in
    let P : Row → Bool = passes_within (tests_of shape) (ties_of shape) (span_of_prefix (widths_of shape) (suc i)) in
    let step = steps_list_what_they_are_given n seed shape items some all wide i (omega (arith, two)) (omega (arith, two, many)) w in
    let mine : filter (passes shape) (extended shape i fronts lasts) ≡ candidates (tests_of shape ++ map tie_test (ties_of shape)) (fronts ∷ lasts ∷ []) =
    filter-inside (passes shape) P (holds-within shape (span_of_prefix (widths_of shape) (suc i))) (flat_map (λ front. behind_it front lasts) fronts)
    ∙ ap (filter (passes shape)) (sym (combined-two fronts lasts)) in
    let whole : filter (passes shape) (filter K (prefix_of shape (suc i) tables)) ≡ filter K (candidates_of shape tables) =
    filter-turn (passes shape) K (prefix_of shape (suc i) tables)
    ∙ ap (filter K) (candidates-prefix shape (suc i) tables (omega (arith, two, many, length-map items (λ (p : PlacedRelation). p.relation.rows)))) in
    subst (λ rows. SameBag rows (filter K (candidates_of shape tables))) mine
    (subst (λ rows. SameBag (filter (passes shape) (extended shape i fronts lasts)) rows) whole
    (filter_rows-same (passes shape) (extended shape i fronts lasts) (filter K (prefix_of shape (suc i) tables)) step))

-- ---- the law

pub parts_are_listed : PartsAreListed
parts_are_listed n seed (ByCells shares) shape items some of all wide many two columns w low =
    let list : Rows → Rows = listed_from shape.arith shape.emits in
    let given = all_given (moves_of (by_cells seed shares shape items)) (length items) w in
    let own = filter (λ row. meeting_cell seed shares shape row == w) (candidates_of shape (rows_of items)) in
    subst (λ rows. SameBag (list (candidates_of shape given)) rows) (sym (listed-at-home list n w (meeting_cell seed shares shape) (candidates_of shape (rows_of items)) low))
    (listed_from-same shape.arith shape.emits (candidates_of shape given) own
    (cells_list_what_they_are_given n seed shares shape items all wide many (omega (arith, two)) columns of.positive of.one_each w))
parts_are_listed n seed ByKeys shape items some of all wide many two columns w low =
    let list : Rows → Rows = listed_from shape.arith shape.emits in
    let home : Row → ℕ = λ row. home_of seed (prefix_key shape (last_atom shape) row) n in
    let moves = moves_of (by_keys n seed shape items (last_atom shape)) in
    let given = candidates (tests_of shape ++ map tie_test (ties_of shape)) (rows_given moves 0 w ∷ rows_given moves 1 w ∷ []) in
    subst (λ rows. SameBag (list given) rows) (sym (listed-at-home list n w home (candidates_of shape (rows_of items)) low))
    (listed_from-same shape.arith shape.emits given (filter (λ row. home row == w) (candidates_of shape (rows_of items)))
    (last-step n seed shape items some all wide many two w))
parts_are_listed n seed Broadcast shape items some of all wide many two columns w low =
    let j = staying_atom shape (rows_of items) in
    let one = slice_index_or items j (placed_nothing n) in
    let placed = get_or-All (IsPlaced n) items j (placed_nothing n) (nothing_IsPlaced n) all in
    let given = set (all_given (moves_of (by_broadcast n shape items)) (length items) w) j (kept_of shape j (part one w)) in
    let cut = set (rows_of items) j (part one w) in
    subst (λ rows. SameBag (listed_of shape given) rows)
    (sym (get_or-map (λ own. listed_of shape (set (rows_of items) j own)) one.parts w [] [] (omega (arith, low, placed.each_worker))))
    (listed_from-same shape.arith shape.emits (candidates_of shape given) (candidates_of shape cut) (broadcasts_list_what_they_are_given n shape items all wide many w low))
