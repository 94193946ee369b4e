-- From an exchange and the local joins behind it to a step.
use Rattle.std.proofs.Common.{◌≡◌, ℕ, zero, suc, ◌+◌, ◌-◌, ◌<◌, ◌≤◌, ◌==◌, Bool, true, false, not, cond, List, [], ◌∷◌, ◌++◌, map, take, length, get_or, All, Result, Ok, Err, refl, sym, ap, ◌∙◌, subst, arith}
use Rattle.std.specs.Prelude.{filter, sum, IfErr, ◌&&◌, ◌||◌}
use Rattle.std.specs.List.{flat_map, list_any, range_with_len}
use Rattle.std.proofs.lemmas.Bool.{eqb-true}
use Rattle.std.proofs.lemmas.Bool.Decides.{nat_tests}
use Rattle.std.proofs.lemmas.List.{length-map, get_or-map}
use Rattle.std.proofs.lemmas.List.FromFn.{get_or-map-range_with_len, length-map-range_with_len}
use Rattle.std.proofs.lemmas.List.Concat.{length-flat_map}
use Rattle.std.proofs.lemmas.List.Folds.{flat_map-map, list_all-append}
use Rattle.std.proofs.lemmas.List.Elements.{All-head, All-tail, All-filter, All-weaker}
use Rattle.std.proofs.lemmas.List.Sorted.{IsPermutation-sym, IsPermutation-trans, length_permutation, All-permutation}
use Rattle.rel_base.specs.Bags.{SameBag}
use Rattle.rel_base.specs.Limits.{most_rows}
use Rattle.rel_base.specs.Values.{number_of, in_64_bits}
use Rattle.rel_io.specs.declared.taps.Totals.{Totals}
use Rattle.exchange_channels.specs.Wirings.{ReceiptState}
use Rattle.myrial_ast.specs.Scalars.{Scalar, At, value_at}
use Rattle.myrial_ast.specs.CandidateFaults.{overflows_on, all_fit}
use Rattle.myrial_ast.specs.Combinations.{Row, Rows, all_hold, combined_rows, listed_from}
use Rattle.myrial_ast.specs.Groups.{row_fits}
use Rattle.myrial_ast.specs.KeptRows.{passes_within, span_of_prefix}
use Rattle.hash_partition.specs.Hashing.{home_of}
use Rattle.bag_laws.proofs.RowPermutations.{filter_rows-same, candidates-same, listed_from-same}
use Rattle.algebra.specs.declared.joins.JoinFault.{JoinFault}
use Rattle.algebra.specs.declared.joins.JoinFault.TheVariants as joined
use Rattle.algebra.specs.Trees.{Shape}
use Rattle.algebra.specs.Shapes.{widths_of, tests_of, ties_of, tie_test, candidates_of, listed_of, prefix_of}
use Rattle.algebra.specs.ShapeConditions.{is_shape}
use Rattle.algebra.proofs.ShapeLemmas.{both}
use Rattle.placement.specs.Exchanges.{kept_parts, prefix_parts}
use Rattle.placement.specs.Laws.{prefix_is_at, extended}
use Rattle.placement.specs.Layouts.{PlacedRelation, placed_nothing, ByKeys, together, rows_of, parts_by_home, prefix_key, last_atom, join_parts}
use Rattle.row_exchange.specs.Moves.{Move, sendings_of, moves_of, rows_given, all_given}
use Rattle.placement.proofs.CellLemmas.{passes}
use Rattle.bag_laws.proofs.PartialLemmas.{filter-inside}
use Rattle.placement.proofs.PrefixLemmas.{behind_it}
use Rattle.placement.proofs.ReceivedLemmas.{steps_list_what_they_are_given}
use Rattle.placement.proofs.ScriptLemmas.{home_of-lt}
use Rattle.placement.proofs.TogetherLemmas.{dealt-together}
use Rattle.row_exchange.specs.declared.routes.Size.{Size}
use Rattle.routed_joins.specs.Listings.{all_candidates, some_overflow, IsListFault}
use Rattle.routed_joins.specs.RouteJoins.{ArePartsAtWorkers, given_to_each, IsRouteJoined, IsRouteJoin}
use Rattle.routed_joins.proofs.RouteLemmas.{any-permuted}
use Rattle.row_exchange.proofs.MoveLemmas as lists
use Rattle.routed_joins.specs.PlacedJoins.{placed_rows, placed_items}
use Rattle.routed_joins.proofs.PartLemmas.{items-placed, items-wide, items-long}
use Rattle.routed_joins.proofs.WorkerLemmas.{same-lengths, any-flat_map}
use Rattle.placement.proofs.ListingLemmas.{holds-within, filter-turn, candidates-prefix, combined-two}
use Rattle.placement.proofs.MeetingLemmas.{any-map}
use Rattle.regular_shuffle.specs.inner.Steps.{every_column, middle_shape, last_shape, shape_at, IsFront}
use Rattle.regular_shuffle.specs.inner.StepRuns.{step_cells, IsFrontAt, step_rows, step_parts, step_moves, HasRunStep, IsStepFault, IsStepRun}
use Rattle.regular_shuffle.proofs.BroadcastLemmas.{flat-same}
use Rattle.regular_shuffle.proofs.ColumnLemmas.{rows-emitted}
use Rattle.regular_shuffle.proofs.FrontLemmas.{fronts-are}
use Rattle.regular_shuffle.proofs.LastLemmas.{all-pairs, middle-candidates, last-candidates}
use Rattle.regular_shuffle.proofs.StepRouteLemmas.{pair-long, sent-same, got-same, bags-shown, tables-same, given-fronts, given-owns}

-- ---- numbers that stand in rows fit 64 bits

fits-at : (row : Row) (c : ℕ) → row_fits row ≡ true → in_64_bits (number_of (value_at row c)) ≡ true
fits-at [] c h = refl
fits-at (v ∷ row) zero h = (both (in_64_bits (number_of v)) (row_fits row) h).0
fits-at (v ∷ row) (suc c) h = fits-at row c (both (in_64_bits (number_of v)) (row_fits row) h).1

columns-fit : (row : Row) (a n : ℕ) → row_fits row ≡ true → all_fit (map At (range_with_len a n)) row ≡ true
columns-fit row a zero h = refl
columns-fit row a (suc n) h = λ i. fits-at row a h i && columns-fit row (a + 1) n h i

none-overflows : (width : ℕ) (row : Row) → row_fits row ≡ true → overflows_on [] (every_column width) row ≡ false
none-overflows width row h = ap not (columns-fit row 0 width h)

none-any : (p : Row → Bool) (rows : Rows) → All (λ row. p row ≡ false) rows → list_any p rows ≡ false
none-any p [] all = refl
none-any p (row ∷ rows) all = λ i. All-head (λ row. p row ≡ false) row rows all i || none-any p rows (All-tail (λ row. p row ≡ false) row rows all) i

-- ---- all workers' candidates together

module _ (step : Shape) (n : ℕ) (given : ℕ → List Rows) (rows : Rows) (whole : SameBag rows (flat_map (λ w. candidates_of step (given w)) (range_with_len 0 n))) where
  all-counted : all_candidates step (map given (range_with_len 0 n)) ≡ length rows
  all-counted =
      lists.sum_by-map (λ parts. length (candidates_of step parts)) given (range_with_len 0 n)
      ∙ sym (length-flat_map (λ w. candidates_of step (given w)) (range_with_len 0 n))
      ∙ length_permutation rows (flat_map (λ w. candidates_of step (given w)) (range_with_len 0 n)) whole

  overflow-found : some_overflow step (map given (range_with_len 0 n)) ≡ list_any (overflows_on step.arith step.emits) rows
  overflow-found =
      any-map (λ parts. list_any (overflows_on step.arith step.emits) (candidates_of step parts)) given (range_with_len 0 n)
      ∙ sym (any-flat_map (overflows_on step.arith step.emits) (λ w. candidates_of step (given w)) (range_with_len 0 n))
      ∙ sym (any-permuted (overflows_on step.arith step.emits) rows (flat_map (λ w. candidates_of step (given w)) (range_with_len 0 n)) whole)

-- ---- a step

module _ (seed : ℕ) (size : Size) (shape : Shape) (parts : List (List Rows)) (ready : ArePartsAtWorkers shape size.workers parts) (shaped : is_shape shape ≡ true) (some : 1 ≤ size.workers)
    (i : ℕ) (one : 1 ≤ i) (inside : i < length parts) (front : List Rows) (is : IsFrontAt seed size.workers shape parts i front) where
  abbrev n : ℕ
  n = size.workers

  abbrev items : List PlacedRelation
  items = placed_items parts

  abbrev tables : List Rows
  tables = rows_of items

  abbrev pub pair : List (List Rows)
  pair = front ∷ get_or parts i [] ∷ []

  abbrev pub goes : ℕ → Row → List ℕ
  goes = step_cells seed n shape i

  abbrev routed : List Move
  routed = moves_of (sendings_of goes pair)

  abbrev given : ℕ → List Rows
  given = all_given routed 2

  abbrev step : Shape
  step = shape_at shape i

  abbrev found : Rows
  found = step_rows shape i parts

  abbrev at_home : ℕ → Row → Bool
  at_home w = prefix_is_at seed n shape i w

  abbrev got_fronts : ℕ → Rows
  got_fronts w = rows_given (step_moves n seed shape parts i) 0 w

  abbrev got_owns : ℕ → Rows
  got_owns w = rows_given (step_moves n seed shape parts i) 1 w

  abbrev tests_at : Shape → List Scalar
  tests_at s = tests_of s ++ map tie_test (ties_of s)

  many : length parts ≡ length shape.atoms
  many = ready.one_each

  inside-shape : i < length shape.atoms
  inside-shape = omega (arith, inside, many)

  are-fronts : (w : ℕ) → All (IsFront shape i) (got_fronts w)
  are-fronts w = given-fronts seed n shape parts ready shaped some i one inside front is w

  law : (w : ℕ) → SameBag (extended shape i (got_fronts w) (got_owns w)) (filter (at_home w) (prefix_of shape (suc i) tables))
  law w =
      steps_list_what_they_are_given n seed shape items some (items-placed n parts ready.each_worker) (items-wide shape n parts ready) i (omega (arith, one))
      (omega (arith, inside, length-map parts placed_rows)) w

  alike : (s : Shape) (w : ℕ) → SameBag (candidates_of s (got_fronts w ∷ got_owns w ∷ [])) (candidates_of s (given w))
  alike s w = candidates-same (tests_at s) (got_fronts w ∷ got_owns w ∷ []) (given w) (tables-same seed n shape parts ready shaped some i one inside front is w)

  middle-here : (w : ℕ) → SameBag (filter (at_home w) (prefix_of shape (suc i) tables)) (candidates_of (middle_shape shape i) (given w))
  middle-here w =
      IsPermutation-trans (filter (at_home w) (prefix_of shape (suc i) tables)) (extended shape i (got_fronts w) (got_owns w)) (candidates_of (middle_shape shape i) (given w))
      (IsPermutation-sym (extended shape i (got_fronts w) (got_owns w)) (filter (at_home w) (prefix_of shape (suc i) tables)) (law w))
      (subst (λ (rows : Rows). SameBag rows (candidates_of (middle_shape shape i) (given w)))
      (middle-candidates shape shaped i inside-shape (got_fronts w) (got_owns w) (are-fronts w) (given-owns seed n shape parts ready shaped some i one inside front is w))
      (alike (middle_shape shape i) w))

  last-here : suc i ≡ length shape.atoms → (w : ℕ) → SameBag (filter (at_home w) (candidates_of shape tables)) (candidates_of (last_shape shape i) (given w))
  last-here end w =
      let wide = prefix_of shape (suc i) tables in
      let long = extended shape i (got_fronts w) (got_owns w) in
      let P = passes_within (tests_of shape) (ties_of shape) (span_of_prefix (widths_of shape) (suc i)) in
      let mine : filter (passes shape) long ≡ candidates_of (last_shape shape i) (got_fronts w ∷ got_owns w ∷ []) =
      filter-inside (passes shape) P (holds-within shape (span_of_prefix (widths_of shape) (suc i))) (flat_map (λ front. behind_it front (got_owns w)) (got_fronts w))
      ∙ ap (filter (passes shape)) (sym (combined-two (got_fronts w) (got_owns w)))
      ∙ sym (last-candidates shape shaped i inside-shape (got_fronts w) (got_owns w) (are-fronts w) (given-owns seed n shape parts ready shaped some i one inside front is w) end) in
      let whole : filter (passes shape) (filter (at_home w) wide) ≡ filter (at_home w) (candidates_of shape tables) =
      filter-turn (passes shape) (at_home w) wide
      ∙ ap (filter (at_home w)) (candidates-prefix shape (suc i) tables (omega (arith, end, many, length-map parts placed_rows, length-map items (λ (p : PlacedRelation). p.relation.rows)))) in
      IsPermutation-trans (filter (at_home w) (candidates_of shape tables)) (filter (passes shape) long) (candidates_of (last_shape shape i) (given w))
      (subst (λ (rows : Rows). SameBag rows (filter (passes shape) long)) whole
      (filter_rows-same (passes shape) (filter (at_home w) wide) long (IsPermutation-sym long (filter (at_home w) wide) (law w))))
      (subst (λ (rows : Rows). SameBag rows (candidates_of (last_shape shape i) (given w))) (sym mine) (alike (last_shape shape i) w))

  here : (w : ℕ) → SameBag (filter (at_home w) found) (candidates_of step (given w))
  here w = by (suc i == length shape.atoms) refl
    where
      by : (b : Bool) → (suc i == length shape.atoms) ≡ b
          → SameBag (filter (at_home w) (cond b (candidates_of shape tables) (prefix_of shape (suc i) tables))) (candidates_of (cond b (last_shape shape i) (middle_shape shape i)) (given w))
      by true e = last-here (eqb-true (suc i) (length shape.atoms) e) w
      by false e = middle-here w

  whole : SameBag found (flat_map (λ w. candidates_of step (given w)) (range_with_len 0 n))
  whole =
      let home : Row → ℕ = λ row. home_of seed (prefix_key shape i row) n in
      IsPermutation-trans found (together (parts_by_home n home found)) (flat_map (λ w. candidates_of step (given w)) (range_with_len 0 n))
      (dealt-together n home (λ row. home_of-lt seed (prefix_key shape i row) n some) found)
      (subst (λ (rows : Rows). SameBag rows (flat_map (λ w. candidates_of step (given w)) (range_with_len 0 n)))
      (sym (flat_map-map (λ (r : Rows). r) (λ w. filter (λ row. home row == w) found) (range_with_len 0 n)))
      (flat-same (λ w. filter (at_home w) found) (λ w. candidates_of step (given w)) n 0 n (omega arith) (λ w low. here w)))

  step-counted : all_candidates step (given_to_each routed 2 n) ≡ length found
  step-counted = all-counted step n given found whole

  step-overflow : some_overflow step (given_to_each routed 2 n) ≡ list_any (overflows_on step.arith step.emits) found
  step-overflow = overflow-found step n given found whole

  -- ---- what is listed

  two : (suc i == 1) ≡ false
  two = grind (arith, nat_tests, one)

  abbrev first : List Rows
  first = kept_parts shape 0 (get_or items 0 (placed_nothing n))

  -- what a worker lists is listed from its candidates
  part-is : (w : ℕ) → w < n → get_or (step_parts n seed shape parts i) w [] ≡ listed_from step.arith step.emits (filter (at_home w) found)
  part-is w low = ap (λ b. get_or (cond b (join_parts n seed ByKeys shape items) (prefix_parts n seed shape items (suc i))) w []) ends ∙ by (suc i == length shape.atoms) refl
    where
      ends : (suc i == length items) ≡ (suc i == length shape.atoms)
      ends = ap (λ m. suc i == m) (items-long shape n parts ready)

      last : suc i ≡ length shape.atoms → get_or (join_parts n seed ByKeys shape items) w [] ≡ listed_from shape.arith shape.emits (filter (at_home w) (candidates_of shape tables))
      last end =
          let at : ℕ → ℕ → Rows = λ k w. filter (λ row. home_of seed (prefix_key shape k row) n == w) (candidates_of shape tables) in
          let atom : last_atom shape ≡ i = omega (arith, end) in
          get_or-map (listed_from shape.arith shape.emits) (map (at (last_atom shape)) (range_with_len 0 n)) w [] [] (omega (arith, low, length-map-range_with_len (at (last_atom shape)) 0 n))
          ∙ ap (listed_from shape.arith shape.emits) (get_or-map-range_with_len (at (last_atom shape)) 0 n w w [] low (omega arith) ∙ ap (λ k. at k w) atom)

      middle : get_or (prefix_parts n seed shape items (suc i)) w [] ≡ listed_from [] (every_column (sum (take (suc i) (widths_of shape)))) (filter (at_home w) (prefix_of shape (suc i) tables))
      middle =
          let at : ℕ → ℕ → Rows = λ k w. filter (λ row. home_of seed (prefix_key shape k row) n == w) (prefix_of shape (suc i) tables) in
          let back : suc i - 1 ≡ i = omega arith in
          ap (λ b. get_or (cond b first (map (at (suc i - 1)) (range_with_len 0 n))) w []) two
          ∙ get_or-map-range_with_len (at (suc i - 1)) 0 n w w [] low (omega arith) ∙ ap (λ k. at k w) back
          ∙ sym (rows-emitted (sum (take (suc i) (widths_of shape))) (filter (at_home w) (prefix_of shape (suc i) tables))
          (All-filter (at_home w) (λ row. length row ≡ sum (take (suc i) (widths_of shape))) (prefix_of shape (suc i) tables)
          (All-weaker (IsFront shape (suc i)) (λ row. length row ≡ sum (take (suc i) (widths_of shape))) (λ row f. f.long) (prefix_of shape (suc i) tables) (fronts-are shape n parts ready shaped (suc i)))))

      by : (b : Bool) → (suc i == length shape.atoms) ≡ b
          → get_or (cond b (join_parts n seed ByKeys shape items) (prefix_parts n seed shape items (suc i))) w []
          ≡ listed_from (cond b (last_shape shape i) (middle_shape shape i)).arith (cond b (last_shape shape i) (middle_shape shape i)).emits
          (filter (at_home w) (cond b (candidates_of shape tables) (prefix_of shape (suc i) tables)))
      by true e = last (eqb-true (suc i) (length shape.atoms) e)
      by false e = middle

  listed-here : (w : ℕ) → w < n → SameBag (get_or (step_parts n seed shape parts i) w []) (listed_of step (given w))
  listed-here w low =
      subst (λ (rows : Rows). SameBag rows (listed_of step (given w))) (sym (part-is w low))
      (listed_from-same step.arith step.emits (filter (at_home w) found) (candidates_of step (given w)) (here w))

  parts-long : length (step_parts n seed shape parts i) ≡ n
  parts-long = ap (λ c. length (cond (suc i == length items) (join_parts n seed ByKeys shape items) (cond c first (map at (range_with_len 0 n))))) two ∙ by (suc i == length items)
    where
      at : ℕ → Rows
      at w = filter (λ row. home_of seed (prefix_key shape (suc i - 1) row) n == w) (prefix_of shape (suc i) tables)

      last : ℕ → Rows
      last w = filter (λ row. home_of seed (prefix_key shape (last_atom shape) row) n == w) (candidates_of shape tables)

      by : (b : Bool) → length (cond b (map (listed_from shape.arith shape.emits) (map last (range_with_len 0 n))) (map at (range_with_len 0 n))) ≡ n
      by true = length-map (map last (range_with_len 0 n)) (listed_from shape.arith shape.emits) ∙ length-map-range_with_len last 0 n
      by false = length-map-range_with_len at 0 n

  -- ---- numbers that are listed fit

  abbrev Fits : Row → Type 0
  Fits row = row_fits row ≡ true

  abbrev pub AllFit : Type 0
  AllFit = All (All (All Fits)) pair

  given-fits : AllFit → (j w : ℕ) → j < 2 → All Fits (rows_given routed j w)
  given-fits fit j w low = lists.given-all goes pair Fits j w low (fit j [] low)

  candidates-fit : AllFit → (s : Shape) (w : ℕ) → All Fits (candidates_of s (given w))
  candidates-fit fit s w =
      All-filter (all_hold (tests_at s)) Fits (combined_rows (given w))
      (subst (All Fits) (sym (combined-two (rows_given routed 0 w) (rows_given routed 1 w)))
      (all-pairs Fits Fits Fits (λ front row f r. list_all-append (λ v. in_64_bits (number_of v)) front row ∙ (λ j. f j && r j)) (rows_given routed 0 w) (rows_given routed 1 w)
      (given-fits fit 0 w (omega arith)) (given-fits fit 1 w (omega arith))))

  no-overflow : AllFit → (width : ℕ) → list_any (overflows_on [] (every_column width)) found ≡ false
  no-overflow fit width =
      none-any (overflows_on [] (every_column width)) found
      (All-weaker Fits (λ row. overflows_on [] (every_column width) row ≡ false) (λ row f. none-overflows width row f) found
      (All-permutation Fits (flat_map (λ w. candidates_of step (given w)) (range_with_len 0 n)) found (IsPermutation-sym found (flat_map (λ w. candidates_of step (given w)) (range_with_len 0 n)) whole)
      (lists.All-flat_map Fits (λ w. candidates_of step (given w)) (range_with_len 0 n) (λ k d below. candidates-fit fit step (get_or (range_with_len 0 n) k d)))))

  -- ---- what the step does

  run-ok : (sent_by got_by listed : ℕ → ℕ) (made : List Rows) (receipt : ReceiptState) → IsRouteJoined routed 2 step size sent_by got_by listed made receipt
      → HasRunStep seed shape parts size i sent_by got_by listed made receipt
  run-ok sent_by got_by listed made receipt j =
      let are = j.listing in
      let long : length made ≡ n = are.each_worker ∙ length-map-range_with_len given 0 n in
      let same : (w : ℕ) → w < n → SameBag (get_or (step_parts n seed shape parts i) w []) (get_or made w []) =
      (λ w low.
      IsPermutation-trans (get_or (step_parts n seed shape parts i) w []) (listed_of step (given w)) (get_or made w []) (listed-here w low)
      (subst (λ (ts : List Rows). SameBag (listed_of step ts) (get_or made w [])) (get_or-map-range_with_len given 0 n w w [] low (omega arith))
      (are.rows_are w (omega (arith, low, length-map-range_with_len given 0 n))))) in
      record {
        few = subst (λ (m : ℕ). m ≤ most_rows) step-counted are.few;
        fits = by (suc i == length shape.atoms) (sym step-overflow ∙ are.fits);
        each_worker = long;
        rows_are = same;
        receipt_shows = bags-shown seed n shape parts ready shaped some i one inside front is size receipt refl j.shows;
        sent_are = λ u low. j.sent_are u low ∙ lists.sent-routed goes pair u ∙ sent-same seed n shape parts ready shaped some i one inside front is u low;
        got_are = λ w low. j.got_are w low ∙ lists.received-routed goes pair n (pair-long seed n shape parts ready shaped some i one inside front is) w ∙ got-same seed n shape parts ready shaped some i one inside front is w;
        listed_are = λ w low.
            are.listed_are w (omega (arith, low, length-map-range_with_len given 0 n)) ∙ length_permutation (get_or (step_parts n seed shape parts i) w []) (get_or made w []) (same w low);
        counts_are = sym (same-lengths (step_parts n seed shape parts i) made (parts-long ∙ sym long) (λ w below. same w (omega (arith, below, parts-long))));
      }
    where
      by : (b : Bool) → list_any (overflows_on (cond b (last_shape shape i) (middle_shape shape i)).arith (cond b (last_shape shape i) (middle_shape shape i)).emits) found ≡ false
          → cond b (list_any (overflows_on shape.arith shape.emits) found) false ≡ false
      by true h = h
      by false h = refl

  run-err : (fault : JoinFault) → (fault ≡ joined.Overflow → (suc i == length shape.atoms) ≡ false → AllFit) → IsListFault step (given_to_each routed 2 n) fault → IsStepFault shape parts i fault
  run-err joined.TooManyRows fit h = subst (λ (m : ℕ). most_rows < m) step-counted h
  run-err joined.Overflow fit h =
      (subst (λ (m : ℕ). m ≤ most_rows) step-counted h.0, by (suc i == length shape.atoms) refl (sym step-overflow ∙ h.1))
    where
      by : (b : Bool) → (suc i == length shape.atoms) ≡ b
          → list_any (overflows_on (cond b (last_shape shape i) (middle_shape shape i)).arith (cond b (last_shape shape i) (middle_shape shape i)).emits) found ≡ true
          → cond b (list_any (overflows_on shape.arith shape.emits) found) false ≡ true
      by true e h = h
      by false e h = let never = no-overflow (fit refl e) (sum (take (suc i) (widths_of shape))) in sym never ∙ h
  run-err joined.Memory fit h = tt

  pub is-run : {T : Type 0} (totals : T → Totals) (tag : T → ℕ) (before after : List T) (answer : Result (List Rows × ReceiptState) JoinFault)
      → IsRouteJoin routed 2 step size totals tag before after answer
      → IfErr answer (λ fault. fault ≡ joined.Overflow → (suc i == length shape.atoms) ≡ false → AllFit)
      → IsStepRun seed shape parts size i totals tag before after answer
  is-run totals tag before after (Ok made) r fit = record {
    sent_by = r.sent;
    got_by = r.got;
    listed_by = r.listed;
    told = r.told;
    even = r.even;
    ok = run-ok r.sent r.got r.listed made.0 made.1 r.ok;
    err = tt;
  }
  is-run totals tag before after (Err fault) r fit = record {
    sent_by = r.sent;
    got_by = r.got;
    listed_by = r.listed;
    told = r.told;
    even = r.even;
    ok = tt;
    err = run-err fault fit r.err;
  }
