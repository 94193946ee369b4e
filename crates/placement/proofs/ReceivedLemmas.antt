-- What workers list is listed from what they are given.
use Rattle.std.proofs.Common.{◌≡◌, ℕ, zero, suc, ◌+◌, ◌-◌, ◌<◌, ◌≤◌, ◌==◌, Bool, true, false, cond, List, [], ◌∷◌, ◌++◌, map, length, refl, sym, ◌∙◌, ap, subst, arith}
use Rattle.std.specs.Prelude.{filter, All, slice_index_or, set, ◌||◌}
use Rattle.std.specs.List.{flat_map, enumerate_from, list_any}
use Rattle.std.proofs.lemmas.Bool.{eqb-true}
use Rattle.std.proofs.lemmas.List.{length-map}
use Rattle.std.proofs.lemmas.List.Elements.{All-nil, All-cons, All-head, All-tail, All-filter, filter-append}
use Rattle.std.proofs.lemmas.List.FromFn.{length-enumerate_from, get_or-map-range_with_len}
use Rattle.std.proofs.lemmas.List.Sorted.{IsPermutation-refl, IsPermutation-sym, IsPermutation-trans, IsPermutation-map}
use Rattle.rel_base.specs.Bags.{SameBag}
use Rattle.rel_base.specs.Values.{row_order}
use Rattle.rel_base.specs.ValueLaws.{row_order_total, row_order-IsAntisymmetric}
use Rattle.hash_partition.specs.Hashing.{home_of}
use Rattle.myrial_ast.specs.Scalars.{exact_value}
use Rattle.myrial_ast.specs.Combinations.{Row, Rows, all_hold, emitted, listed_from}
use Rattle.myrial_ast.specs.KeptRows.{passes_within, span_of_prefix}
use Rattle.myrial_ast.specs.Groups.{Kinds, groups, key_of}
use Rattle.myrial_ast.specs.Partials.{partial_kinds, partial_rows, merged}
use Rattle.bag_laws.proofs.PartialLemmas.{groups_meet_by_key}
use Rattle.bag_laws.proofs.GroupPermutations.{groups-same}
use Rattle.bag_laws.specs.PartialLaws.{AreGrouped}
use Rattle.bag_laws.specs.Permuted.{SameTables, no_table, a_table}
use Rattle.bag_laws.proofs.RowPermutations.{filter_rows-same, candidates-same, flat_map-same, flat_map-each}
use Rattle.algebra.specs.Trees.{Shape}
use Rattle.algebra.specs.Shapes.{widths_of, tests_of, ties_of, tie_test, candidates_of, kept_of, listed_of, prefix_of}
use Rattle.placement.specs.Destinations.{destinations, is_destination, meeting_cell}
use Rattle.placement.specs.Exchanges.{kept_parts, by_cells, prefix_parts, by_keys, partial_sending}
use Rattle.placement.specs.Layouts.{PlacedRelation, Placing, Shuffle, ByCells, ByKeys, Broadcast, placed_nothing, rows_of, together, parts_by_home, prefix_key, item_key, last_atom, staying_atom, join_parts, listed_parts, parts_by_key, joined_items}
use Rattle.placement.specs.Laws.{IsPlaced, AreWide, prefix_is_at, item_is_at, extended}
use Rattle.row_exchange.specs.Moves.{Sending, moves_of, rows_given, all_given}
use Rattle.placement.specs.Receiving.{GoesOnce, sent_to, CellsListWhatTheyAreGiven, StepsListWhatTheyAreGiven, ListedRowsAreGrouped, GroupsAreMerged}
use Rattle.placement.proofs.BalanceLemmas.{destinations_are_workers}
use Rattle.placement.proofs.MoveLemmas.{given-at, given-each}
use Rattle.placement.proofs.TogetherLemmas.{dealt-together, together-filter}
use Rattle.placement.proofs.ScriptLemmas.{home_of-lt, get_or-All, nothing_IsPlaced, All-made, join-AreParts}
use Rattle.placement.proofs.KeptLemmas.{is_kept, candidates_are_kept}
use Rattle.placement.proofs.CellLemmas.{cells_list_their_candidates}
use Rattle.placement.proofs.PrefixLemmas.{behind_it, row-end, combined-before, prefixes_meet_by_key}

-- ---- all that goes to a worker

-- what goes to a worker of the kept rows of an item
pub kept-received : (n : ℕ) (shape : Shape) (j : ℕ) (p : PlacedRelation) (to : Row → List ℕ) (w : ℕ) → IsPlaced n p
    → SameBag (sent_to (record { parts = kept_parts shape j p; goes_to = to }) w) (filter (λ row. list_any (λ c. c == w) (to row)) (kept_of shape j p.relation.rows))
kept-received n shape j p to w placed =
    let q : Row → Bool = λ row. list_any (λ c. c == w) (to row) in
    let own : sent_to (record { parts = kept_parts shape j p; goes_to = to }) w ≡ filter q (kept_of shape j (together p.parts)) =
    ap (filter q) (together-filter (is_kept shape j) p.parts) in
    subst (λ rows. SameBag rows (filter q (kept_of shape j p.relation.rows))) (sym own)
    (filter_rows-same q (kept_of shape j (together p.parts)) (kept_of shape j p.relation.rows)
    (filter_rows-same (is_kept shape j) (together p.parts) p.relation.rows (IsPermutation-sym p.relation.rows (together p.parts) placed.all_rows)))

-- ---- by cells

abbrev pub kept_tables : Shape → ℕ → List Rows → List Rows
kept_tables shape i tables = map (λ (e : ℕ × Rows). kept_of shape e.0 e.1) (enumerate_from i tables)

cells-received : (n seed : ℕ) (shares : List ℕ) (shape : Shape) (w i : ℕ) (items : List PlacedRelation) → All (IsPlaced n) items
    → SameTables (map (λ s. sent_to s w) (map (λ (e : ℕ × PlacedRelation). record { parts = kept_parts shape e.0 e.1; goes_to = destinations seed shares shape e.0 }) (enumerate_from i items)))
    (map (λ (e : ℕ × Rows). filter (is_destination seed shares shape w e.0) e.1) (enumerate_from i (kept_tables shape i (rows_of items))))
cells-received n seed shares shape w i [] all = no_table
cells-received n seed shares shape w i (p ∷ items) all =
    a_table (sent_to (record { parts = kept_parts shape i p; goes_to = destinations seed shares shape i }) w) (filter (is_destination seed shares shape w i) (kept_of shape i p.relation.rows))
    (map (λ s. sent_to s w) (map (λ (e : ℕ × PlacedRelation). record { parts = kept_parts shape e.0 e.1; goes_to = destinations seed shares shape e.0 }) (enumerate_from (i + 1) items)))
    (map (λ (e : ℕ × Rows). filter (is_destination seed shares shape w e.0) e.1) (enumerate_from (i + 1) (kept_tables shape (i + 1) (rows_of items))))
    (kept-received n shape i p (destinations seed shares shape i) w (All-head (IsPlaced n) p items all))
    (cells-received n seed shares shape w (i + 1) items (All-tail (IsPlaced n) p items all))

kept-wide : (shape : Shape) (i : ℕ) (widths : List ℕ) (tables : List Rows) → AreWide widths tables → AreWide widths (kept_tables shape i tables)
kept-wide shape i [] [] h = tt
kept-wide shape i [] (rows ∷ tables) h = absurd h
kept-wide shape i (width ∷ widths) [] h = absurd h
kept-wide shape i (width ∷ widths) (rows ∷ tables) h = (All-filter (is_kept shape i) (λ row. length row ≡ width) rows h.0, kept-wide shape (i + 1) widths tables h.1)

cells-once : (seed : ℕ) (shares : List ℕ) (shape : Shape) (items : List PlacedRelation) → All GoesOnce (by_cells seed shares shape items)
cells-once seed shares shape items =
    All-made GoesOnce (λ (e : ℕ × PlacedRelation). record { parts = kept_parts shape e.0 e.1; goes_to = destinations seed shares shape e.0 })
    (λ e row. (destinations_are_workers seed shares shape e.0 row).1) (enumerate_from 0 items)

-- what a worker is given, where as many atoms send as there are items
pub given-items : (sendings : List Sending) (n w : ℕ) → length sendings ≡ n → All GoesOnce sendings → all_given (moves_of sendings) n w ≡ map (λ s. sent_to s w) sendings
given-items sendings n w e once = ap (λ m. all_given (moves_of sendings) m w) (sym e) ∙ given-each sendings once w

pub cells_list_what_they_are_given : CellsListWhatTheyAreGiven
cells_list_what_they_are_given n seed shares shape items all wide many some columns positive as_many w =
    let kept = kept_tables shape 0 (rows_of items) in
    let at_home : Row → Bool = λ row. meeting_cell seed shares shape row == w in
    let sendings = by_cells seed shares shape items in
    let given = map (λ s. sent_to s w) sendings in
    let long : length sendings ≡ length items =
    length-map (enumerate_from 0 items) (λ (e : ℕ × PlacedRelation). record { parts = kept_parts shape e.0 e.1; goes_to = destinations seed shares shape e.0 })
    ∙ length-enumerate_from 0 items in
    subst (λ tables. SameBag (candidates_of shape tables) (filter at_home (candidates_of shape (rows_of items)))) (sym (given-items sendings (length items) w long (cells-once seed shares shape items)))
    (subst (λ rows. SameBag (candidates_of shape given) rows)
    (cells_list_their_candidates seed shares shape kept some columns (kept-wide shape 0 (widths_of shape) (rows_of items) wide) positive as_many w
    ∙ ap (filter at_home) (candidates_are_kept shape (rows_of items) wide (length-map items (λ (p : PlacedRelation). p.relation.rows) ∙ many)))
    (candidates-same (tests_of shape ++ map tie_test (ties_of shape)) given (map (λ (e : ℕ × Rows). filter (is_destination seed shares shape w e.0) e.1) (enumerate_from 0 kept)) (cells-received n seed shares shape w 0 items all)))

-- ---- by keys

or-false : (b : Bool) → (b || false) ≡ b
or-false true = refl
or-false false = refl

pub alone : (rows : Rows) → flat_map (λ row. behind_it row ([] ∷ [])) rows ≡ rows
alone [] = refl
alone (row ∷ rows) =
    let first = row-end row in
    let rest = alone rows in
    λ i. first i ∷ rest i

pub prefix-one : (shape : Shape) (rows : Rows) (tables : List Rows) → prefix_of shape 1 (rows ∷ tables) ≡ kept_of shape 0 rows
prefix-one shape rows tables =
    ap (filter (passes_within (tests_of shape) (ties_of shape) (span_of_prefix (widths_of shape) 1))) (combined-before ([] ∷ []) rows ∙ alone rows)

-- the candidates of a prefix where they lie are all of them
pub prefix-lies : (n seed : ℕ) (shape : Shape) (items : List PlacedRelation) → 1 ≤ n → All (IsPlaced n) items → (i : ℕ) → i < length items
    → SameBag (together (prefix_parts n seed shape items i)) (prefix_of shape i (rows_of items))
prefix-lies n seed shape [] some all i low = absurd (omega (arith, low))
prefix-lies n seed shape (p ∷ items) some all i low = by (i == 1) refl
  where
    home : Row → ℕ
    home row = home_of seed (prefix_key shape (i - 1) row) n

    rows : Rows
    rows = prefix_of shape i (rows_of (p ∷ items))

    first : SameBag (together (kept_parts shape 0 p)) (kept_of shape 0 p.relation.rows)
    first =
        subst (λ rs. SameBag rs (kept_of shape 0 p.relation.rows)) (sym (together-filter (is_kept shape 0) p.parts))
        (filter_rows-same (is_kept shape 0) (together p.parts) p.relation.rows (IsPermutation-sym p.relation.rows (together p.parts) (All-head (IsPlaced n) p items all).all_rows))

    by : (b : Bool) → (i == 1) ≡ b → SameBag (together (cond b (kept_parts shape 0 p) (parts_by_home n home rows))) rows
    by true e =
        subst (λ rs. SameBag (together (kept_parts shape 0 p)) rs)
        (sym (ap (λ k. prefix_of shape k (rows_of (p ∷ items))) (eqb-true i 1 e) ∙ prefix-one shape p.relation.rows (rows_of items))) first
    by false e = IsPermutation-sym rows (together (parts_by_home n home rows)) (dealt-together n home (λ row. home_of-lt seed (prefix_key shape (i - 1) row) n some) rows)

-- what goes to the homes of keys
homes-received : (parts : List Rows) (home : Row → ℕ) (rows : Rows) (w : ℕ) → SameBag (together parts) rows
    → SameBag (sent_to (record { parts = parts; goes_to = λ row. home row ∷ [] }) w) (filter (λ row. home row == w) rows)
homes-received parts home rows w same =
    let own : sent_to (record { parts = parts; goes_to = λ row. home row ∷ [] }) w ≡ filter (λ row. home row == w) (together parts) =
    (λ k. filter (λ row. or-false (home row == w) k) (together parts)) in
    subst (λ rs. SameBag rs (filter (λ row. home row == w) rows)) (sym own) (filter_rows-same (λ row. home row == w) (together parts) rows same)

kept-lies : (n : ℕ) (shape : Shape) (j i : ℕ) (items : List PlacedRelation) → All (IsPlaced n) items
    → SameBag (together (kept_parts shape j (slice_index_or items i (placed_nothing n)))) (kept_of shape j (slice_index_or items i (placed_nothing n)).relation.rows)
kept-lies n shape j i items all =
    let p = slice_index_or items i (placed_nothing n) in
    let placed = get_or-All (IsPlaced n) items i (placed_nothing n) (nothing_IsPlaced n) all in
    subst (λ rs. SameBag rs (kept_of shape j p.relation.rows)) (sym (together-filter (is_kept shape j) p.parts))
    (filter_rows-same (is_kept shape j) (together p.parts) p.relation.rows (IsPermutation-sym p.relation.rows (together p.parts) placed.all_rows))

rows-at : (n i : ℕ) (items : List PlacedRelation) → i < length items → (slice_index_or items i (placed_nothing n)).relation.rows ≡ slice_index_or (rows_of items) i []
rows-at n i [] low = absurd (omega (arith, low))
rows-at n zero (p ∷ items) low = refl
rows-at n (suc i) (p ∷ items) low = rows-at n i items (omega (arith, low))

pub steps_list_what_they_are_given : StepsListWhatTheyAreGiven
steps_list_what_they_are_given n seed shape items some all wide i above low w =
    let tables = rows_of items in
    let K : Row → Bool = prefix_is_at seed n shape i w in
    let J : Row → Bool = item_is_at seed n shape i w in
    let P = passes_within (tests_of shape) (ties_of shape) (span_of_prefix (widths_of shape) (suc i)) in
    let fronts = filter K (prefix_of shape i tables) in
    let lasts = filter J (kept_of shape i (slice_index_or tables i [])) in
    let sending_fronts : Sending = record { parts = prefix_parts n seed shape items i; goes_to = λ row. home_of seed (prefix_key shape i row) n ∷ [] } in
    let sending_lasts : Sending = record { parts = kept_parts shape i (slice_index_or items i (placed_nothing n)); goes_to = λ row. home_of seed (item_key shape i row) n ∷ [] } in
    let got_fronts = sent_to sending_fronts w in
    let got_lasts = sent_to sending_lasts w in
    let once : All GoesOnce (by_keys n seed shape items i) =
    All-cons GoesOnce sending_fronts (sending_lasts ∷ []) (λ row. refl) (All-cons GoesOnce sending_lasts [] (λ row. refl) (All-nil GoesOnce)) in
    let given_fronts = given-at (by_keys n seed shape items i) once 0 (omega arith) w in
    let given_lasts = given-at (by_keys n seed shape items i) once 1 (omega arith) w in
    let front : SameBag got_fronts fronts =
    homes-received (prefix_parts n seed shape items i) (λ row. home_of seed (prefix_key shape i row) n) (prefix_of shape i tables) w (prefix-lies n seed shape items some all i low) in
    let last : SameBag got_lasts lasts =
    subst (λ rows. SameBag got_lasts (filter J (kept_of shape i rows))) (rows-at n i items low)
    (homes-received (kept_parts shape i (slice_index_or items i (placed_nothing n))) (λ row. home_of seed (item_key shape i row) n)
    (kept_of shape i (slice_index_or items i (placed_nothing n)).relation.rows) w (kept-lies n shape i i items all)) in
    let whole = filter K (prefix_of shape (suc i) tables) in
    let made : SameBag (extended shape i got_fronts got_lasts) whole =
    subst (λ rows. SameBag (filter P (flat_map (λ front. behind_it front got_lasts) got_fronts)) rows) (sym (prefixes_meet_by_key seed n shape i tables wide above (omega (arith, low, length-map items (λ (p : PlacedRelation). p.relation.rows))) w))
    (filter_rows-same P (flat_map (λ front. behind_it front got_lasts) got_fronts) (flat_map (λ front. behind_it front lasts) fronts)
    (IsPermutation-trans (flat_map (λ front. behind_it front got_lasts) got_fronts) (flat_map (λ front. behind_it front got_lasts) fronts) (flat_map (λ front. behind_it front lasts) fronts)
    (flat_map-same row_order row_order_total row_order-IsAntisymmetric (λ front. behind_it front got_lasts) got_fronts fronts front)
    (flat_map-each (λ front. behind_it front got_lasts) (λ front. behind_it front lasts) (λ front. IsPermutation-map (λ row. front ++ row) got_lasts lasts last) fronts))) in
    subst (λ rows. SameBag (extended shape i rows (rows_given (moves_of (by_keys n seed shape items i)) 1 w)) whole) (sym given_fronts)
    (subst (λ rows. SameBag (extended shape i got_fronts rows) whole) (sym given_lasts) made)

-- ---- groups

filter-each : {X : Type 0} (p : Row → Bool) (f : X → Rows) (xs : List X) → filter p (together (map f xs)) ≡ flat_map (λ x. filter p (f x)) xs
filter-each p f [] = refl
filter-each p f (x ∷ xs) = filter-append p (f x) (together (map f xs)) ∙ ap (λ rows. filter p (f x) ++ rows) (filter-each p f xs)

-- the partial rows that a worker is given of lists that are, together, some rows
pub partials-merged : (p : Placing) (kinds : Kinds) (listed : List Rows) (rows : Rows) → All (AreGrouped kinds) listed → SameBag rows (together listed) → (w : ℕ)
    → SameBag (merged kinds (rows_given (moves_of (partial_sending p kinds listed ∷ [])) 0 w)) (filter (λ row. home_of p.seed (key_of kinds row) p.workers == w) (groups kinds rows))
partials-merged p kinds listed rows all same w =
    let test : Row → Bool = λ key. home_of p.seed key p.workers == w in
    let sending = partial_sending p kinds listed in
    let own = sent_to sending w in
    let given = given-at (sending ∷ []) (All-cons GoesOnce sending [] (λ row. refl) (All-nil GoesOnce)) 0 (omega arith) w in
    let partials : own ≡ flat_map (λ rows. filter (λ row. test (key_of (partial_kinds kinds) row)) (partial_rows kinds rows)) listed =
    (λ k. filter (λ row. or-false (test (key_of (partial_kinds kinds) row)) k) (together (map (partial_rows kinds) listed)))
    ∙ filter-each (λ row. test (key_of (partial_kinds kinds) row)) (partial_rows kinds) listed in
    subst (λ rs. SameBag (merged kinds rs) (filter (λ row. test (key_of kinds row)) (groups kinds rows))) (sym given)
    (IsPermutation-trans (merged kinds own) (filter (λ row. test (key_of kinds row)) (groups kinds (together listed))) (filter (λ row. test (key_of kinds row)) (groups kinds rows))
    (groups_meet_by_key kinds listed own test all (subst (λ rs. SameBag own rs) partials (IsPermutation-refl own)))
    (filter_rows-same (λ row. test (key_of kinds row)) (groups kinds (together listed)) (groups kinds rows) (groups-same kinds (together listed) rows (IsPermutation-sym rows (together listed) same))))

-- ---- each listed row has a column for each kind

listed-grouped : (kinds : Kinds) (shape : Shape) → length kinds ≡ length shape.emits → (candidates : Rows) → AreGrouped kinds (listed_from shape.arith shape.emits candidates)
listed-grouped kinds shape e candidates = made (filter (all_hold shape.arith) candidates)
  where
    made : (rows : Rows) → AreGrouped kinds (map (emitted shape.emits) rows)
    made [] = All-nil (λ row. length row ≡ length kinds)
    made (row ∷ rows) = All-cons (λ row. length row ≡ length kinds) (emitted shape.emits row) (map (emitted shape.emits) rows) (length-map shape.emits (λ e. exact_value e row) ∙ sym e) (made rows)

join-grouped : (kinds : Kinds) (n seed : ℕ) (shuffle : Shuffle) (shape : Shape) (given : List PlacedRelation) → length kinds ≡ length shape.emits → All (AreGrouped kinds) (join_parts n seed shuffle shape given)
join-grouped kinds n seed (ByCells shares) shape given e =
    All-made (AreGrouped kinds) (listed_from shape.arith shape.emits) (listed-grouped kinds shape e) (parts_by_home n (meeting_cell seed shares shape) (candidates_of shape (rows_of given)))
join-grouped kinds n seed ByKeys shape given e =
    All-made (AreGrouped kinds) (listed_from shape.arith shape.emits) (listed-grouped kinds shape e)
    (parts_by_home n (λ row. home_of seed (prefix_key shape (last_atom shape) row) n) (candidates_of shape (rows_of given)))
join-grouped kinds n seed Broadcast shape given e =
    let j = staying_atom shape (rows_of given) in
    All-made (AreGrouped kinds) (λ own. listed_of shape (set (rows_of given) j own)) (λ own. listed-grouped kinds shape e (candidates_of shape (set (rows_of given) j own)))
    (slice_index_or given j (placed_nothing n)).parts

pub listed_rows_are_grouped : ListedRowsAreGrouped
listed_rows_are_grouped p number shape [] kinds e =
    let items = joined_items p.reduce shape [] in
    join-grouped kinds p.workers p.seed (p.shuffle number shape (rows_of items)) shape items e
listed_rows_are_grouped p number shape (one ∷ []) kinds e =
    All-made (AreGrouped kinds) (λ own. listed_of shape (own ∷ [])) (λ own. listed-grouped kinds shape e (candidates_of shape (own ∷ []))) one.parts
listed_rows_are_grouped p number shape (one ∷ two ∷ more) kinds e =
    let items = joined_items p.reduce shape (one ∷ two ∷ more) in
    join-grouped kinds p.workers p.seed (p.shuffle number shape (rows_of items)) shape items e

-- ---- groups

pub groups_are_merged : GroupsAreMerged
groups_are_merged p number shape given kinds good placed wide some e w low =
    let rows = groups kinds (listed_of shape (rows_of given)) in
    let listed = listed_parts p number shape given in
    let home : Row → ℕ = λ row. home_of p.seed (key_of kinds row) p.workers in
    let here : slice_index_or (parts_by_key p kinds rows) w [] ≡ filter (λ row. home row == w) rows =
    get_or-map-range_with_len (λ w. filter (λ row. home row == w) rows) 0 p.workers w w [] low (omega arith) in
    subst (λ part. SameBag (merged kinds (rows_given (moves_of (partial_sending p kinds listed ∷ [])) 0 w)) part) (sym here)
    (partials-merged p kinds listed (listed_of shape (rows_of given)) (listed_rows_are_grouped p number shape given kinds e)
    (join-AreParts p number shape given good wide some placed).1 w)
