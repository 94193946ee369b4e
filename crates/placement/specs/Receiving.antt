-- The laws of what workers are given: what a worker lists is made of it alone.
--
--   RowsAreGivenOnce                   of each atom, a worker is given the rows that go to it, each as often as it lies somewhere
--   CellsListWhatTheyAreGiven          by cells, the candidates of what a worker is given are those that meet there
--   StepsListWhatTheyAreGiven          two at a time, so are those of a step
--   BroadcastsListWhatTheyAreGiven     by broadcast, those of a worker's own part and of what it is given are those of its part
--   PartsAreListed                     what a worker lists of what it is given is its part of the join
--   GroupsAreMerged                    the partial rows that a worker is given, merged, are the groups at home there
--   ListedRowsAreGrouped               each listed row has a column for each kind of its grouping
use Rattle.std.specs.Prelude.{◌≡◌, ℕ, suc, ◌++◌, ◌<◌, ◌≤◌, ◌==◌, IsTrue, List, [], ◌∷◌, map, filter, length, All, set, slice_index_or}
use Rattle.std.specs.List.{list_any}
use Rattle.rel_base.specs.Bags.{SameBag}
use Rattle.myrial_ast.specs.Combinations.{Row, Rows, candidates, listed_from}
use Rattle.myrial_ast.specs.Groups.{Kinds, groups}
use Rattle.myrial_ast.specs.Partials.{merged}
use Rattle.bag_laws.specs.PartialLaws.{AreGrouped}
use Rattle.algebra.specs.Trees.{Shape}
use Rattle.algebra.specs.Shapes.{widths_of, tests_of, ties_of, tie_test, candidates_of, kept_of, listed_of, prefix_of}
use Rattle.algebra.specs.ShapeConditions.{all_different}
use Rattle.placement.specs.Destinations.{meeting_cell}
use Rattle.placement.specs.Exchanges.{by_cells, by_broadcast, by_keys, partial_sending}
use Rattle.placement.specs.Layouts.{PlacedRelation, Placing, Shuffle, ByCells, ByKeys, Broadcast, placed_nothing, part, rows_of, last_atom, staying_atom, together, join_parts, listed_parts, parts_by_key}
use Rattle.placement.specs.Laws.{IsPlaced, IsSharing, IsPlacing, AreWide, IsColumns, prefix_is_at, extended}
use Rattle.row_exchange.specs.Moves.{Sending, no_sending, moves_of, rows_between, rows_given, all_given}

-- no row goes to a worker twice
abbrev pub GoesOnce : Sending → Type 0
GoesOnce s = (row : Row) → IsTrue (all_different (s.goes_to row))

-- the rows that lie at u and go to w
abbrev pub sent_from : Sending → ℕ → ℕ → Rows
sent_from s u w =
    filter (λ row. list_any (λ c. c == w) (s.goes_to row)) (slice_index_or s.parts u [])

-- the rows that go to w, from wherever they lie
abbrev pub sent_to : Sending → ℕ → Rows
sent_to s w = filter (λ row. list_any (λ c. c == w) (s.goes_to row)) (together s.parts)

-- read off the moves: between two workers go the rows that lie at the one and go to the other, and a worker is given the rows
-- that go to it
abbrev pub RowsAreGivenOnce : Type 0
RowsAreGivenOnce =
    (sendings : List Sending) → All GoesOnce sendings → (atom : ℕ) → atom < length sendings
    → (w : ℕ)
    → ((u : ℕ) → rows_between (moves_of sendings) atom u w
    ≡ sent_from (slice_index_or sendings atom no_sending) u w)
    × (rows_given (moves_of sendings) atom w ≡ sent_to (slice_index_or sendings atom no_sending) w)

-- by cells, the candidates of what a worker is given are those whose meeting cell it is
abbrev pub CellsListWhatTheyAreGiven : Type 0
CellsListWhatTheyAreGiven =
    (n seed : ℕ) (shares : List ℕ) (shape : Shape) (items : List PlacedRelation)
    → All (IsPlaced n) items → AreWide (widths_of shape) (rows_of items)
    → length items ≡ length shape.atoms → 0 < length shape.atoms
    → All (IsColumns shape) shape.variables
    → All (λ share. 1 ≤ share) shares → length shares ≡ length shape.variables → (w : ℕ)
    → SameBag (candidates_of shape (all_given (moves_of (by_cells seed shares shape items)) (length items) w))
    (filter (λ row. meeting_cell seed shares shape row == w) (candidates_of shape (rows_of items)))

-- two at a time, the candidates of what a worker is given in a step are those whose key has its home there
abbrev pub StepsListWhatTheyAreGiven : Type 0
StepsListWhatTheyAreGiven =
    (n seed : ℕ) (shape : Shape) (items : List PlacedRelation) → 1 ≤ n
    → All (IsPlaced n) items → AreWide (widths_of shape) (rows_of items)
    → (i : ℕ) → 0 < i → i < length items → (w : ℕ)
    → let moves = moves_of (by_keys n seed shape items i) in
    SameBag (extended shape i (rows_given moves 0 w) (rows_given moves 1 w))
    (filter (prefix_is_at seed n shape i w) (prefix_of shape (suc i) (rows_of items)))

-- by broadcast, a worker's own kept rows of the item that stays and what it is given of the others have the candidates of its
-- own part and the whole others
abbrev pub BroadcastsListWhatTheyAreGiven : Type 0
BroadcastsListWhatTheyAreGiven =
    (n : ℕ) (shape : Shape) (items : List PlacedRelation)
    → All (IsPlaced n) items → AreWide (widths_of shape) (rows_of items)
    → length items ≡ length shape.atoms → (w : ℕ) → w < n
    → let j = staying_atom shape (rows_of items) in
    let own = part (slice_index_or items j (placed_nothing n)) w in
    let given = all_given (moves_of (by_broadcast n shape items)) (length items) w in
    SameBag (candidates_of shape (set given j (kept_of shape j own)))
    (candidates_of shape (set (rows_of items) j own))

-- what worker w lists of what it is given in the last exchange of a join: of all atoms; of the candidates of the atoms before the
-- last one and of the last one; or of all atoms but for its own rows of the one that stays
abbrev pub listed_at : ℕ → ℕ → Shuffle → Shape → List PlacedRelation → ℕ → Rows
listed_at n seed (ByCells shares) shape items w =
    listed_of shape (all_given (moves_of (by_cells seed shares shape items)) (length items) w)
listed_at n seed ByKeys shape items w =
    let moves = moves_of (by_keys n seed shape items (last_atom shape)) in
    listed_from shape.arith shape.emits
    (candidates (tests_of shape ++ map tie_test (ties_of shape))
    (rows_given moves 0 w ∷ rows_given moves 1 w ∷ []))
listed_at n seed Broadcast shape items w =
    let j = staying_atom shape (rows_of items) in
    let own = kept_of shape j (part (slice_index_or items j (placed_nothing n)) w) in
    listed_of shape (set (all_given (moves_of (by_broadcast n shape items)) (length items) w) j own)

-- what a worker lists of what it is given is its part of the join
abbrev pub PartsAreListed : Type 0
PartsAreListed =
    (n seed : ℕ) (shuffle : Shuffle) (shape : Shape) (items : List PlacedRelation) → 1 ≤ n
    → IsSharing n shape shuffle
    → All (IsPlaced n) items → AreWide (widths_of shape) (rows_of items)
    → length items ≡ length shape.atoms → 2 ≤ length shape.atoms
    → All (IsColumns shape) shape.variables → (w : ℕ) → w < n
    → SameBag (listed_at n seed shuffle shape items w)
    (slice_index_or (join_parts n seed shuffle shape items) w [])

-- each row that a worker lists has a column for each kind
abbrev pub ListedRowsAreGrouped : Type 0
ListedRowsAreGrouped =
    (p : Placing) (number : ℕ) (shape : Shape) (given : List PlacedRelation) (kinds : Kinds)
    → length kinds ≡ length shape.emits
    → All (AreGrouped kinds) (listed_parts p number shape given)

-- the partial rows that a worker is given, merged, are the groups at home there
abbrev pub GroupsAreMerged : Type 0
GroupsAreMerged =
    (p : Placing) (number : ℕ) (shape : Shape) (given : List PlacedRelation) (kinds : Kinds)
    → IsPlacing p
    → All (IsPlaced p.workers) given → AreWide (widths_of shape) (rows_of given) → 1 ≤ length given
    → length kinds ≡ length shape.emits → (w : ℕ) → w < p.workers
    → let moves = moves_of (partial_sending p kinds (listed_parts p number shape given) ∷ []) in
    SameBag (merged kinds (rows_given moves 0 w))
    (slice_index_or (parts_by_key p kinds (groups kinds (listed_of shape (rows_of given)))) w [])
