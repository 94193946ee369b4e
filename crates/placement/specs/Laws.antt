-- The laws of placement, but for those of what workers are given (`Receiving`).
--
--   IsPlaced n p                   there is a list for each worker, and all lists together are the relation's rows
--   IsSharing n shape shuffle      its shares are those that n workers may have
--   IsPlacing p                    there are workers, and each join has the candidates and the cells that it may have
--   PartsHoldTheRows               whatever a checked script stores is placed
--   PlacedAreStored                the relations that are placed are those that the script stores
--   JoinsAreReady                  the items of a script's joins are placed, and as wide as their atoms
--   RuledIsPlacing                 what settings and rules say is a placing
--   ReducedHaveTheCandidates       a join of the reduced rows has the candidates of the join
--   ReducedAreKept                 the reduced rows are kept rows
--   JoinedAreJoined                what is joined is as the laws of joins ask
--   JoinedAreOfBags                the order of rows changes what is joined in the order of its rows alone
--   JoinedTakePart                 where a join is reduced, each row that is joined is in some combination that agrees
--   DestinationsAreCells           the destinations of a row are the cells that agree with it
--   DestinationsAreWorkers         they are below the number of cells, and none stands twice
--   CandidatesMeetAtOneCell        the rows of a candidate all go to a worker exactly where it is the meeting cell
--   CellsListTheirCandidates       the candidates of the rows that go to a worker are those that meet there
--   CandidatesAreKept              the candidates of the kept rows are all candidates
--   PrefixesMeetByKey              the candidates of a prefix with one key are made of what has this key
--   PartsAreBags                   the order of rows changes no worker's part but in the order of its rows
--   MovesBalance, ExchangesBalance over all workers as many rows are sent as received
use Rattle.std.specs.Prelude.{◌≡◌, ◌↔◌, ⊤, ℕ, suc, ◌++◌, ◌<◌, ◌≤◌, ◌==◌, Bool, true, IsTrue, List, [], ◌∷◌, map, filter, length, sum, sum_by, All, slice_index_or}
use Rattle.std.specs.List.{flat_map, enumerate_from, range_with_len}
use Rattle.rel_base.specs.Bags.{SameBag}
use Rattle.rel_base.specs.Keys.{File}
use Rattle.rel_base.specs.declared.names.Key.{Key}
use Rattle.myrial_ast.specs.Scalars.{value_at}
use Rattle.myrial_ast.specs.Combinations.{Row, Rows, combined_row}
use Rattle.myrial_ast.specs.KeptRows.{passes_within, span_of_prefix}
use Rattle.myrial_ast.specs.ReducedRows.{takes_part}
use Rattle.bag_laws.specs.Permuted.{SameTables}
use Rattle.hash_partition.specs.Hashing.{home_of}
use Rattle.share_chooser.specs.Load.{product, IsShareVector}
use Rattle.algebra.specs.declared.settings.Settings.{Settings}
use Rattle.algebra.specs.declared.terms.Source.{Source}
use Rattle.algebra.specs.Trees.{Shape, TermTree, Join, Group, StepTree, CheckedTree}
use Rattle.algebra.specs.Shapes.{widths_of, tests_of, ties_of, candidates_of, kept_of, prefix_of, kept_tables, reduced_of, reduced_tables, is_acyclic_shape}
use Rattle.algebra.specs.Conditions.{is_of}
use Rattle.algebra.specs.ShapeConditions.{all_different}
use Rattle.algebra.specs.Meanings.{stored_by}
use Rattle.algebra.specs.Rewriting.{AreTyped}
use Rattle.placement.specs.Destinations.{IsDestination, destinations, is_destination, meeting_cell}
use Rattle.placement.specs.Exchanges.{PlacedExchange, kept_parts, exchanges_of}
use Rattle.placement.specs.Layouts.{PlacedRelation, Placing, Shuffle, ByCells, ByKeys, Broadcast, placed_nothing, together, joined_items, join_parts, rows_of, placed_source, placed_steps, placed_stores, prefix_key, item_key}
use Rattle.row_exchange.specs.Moves.{Move, sent, received}
use Rattle.placement.specs.Plans.{ShuffleRule, placing_by}

-- ---- what is placed

-- a list for each worker, and all of them together are the rows
pub record IsPlaced (n : ℕ) (p : PlacedRelation) : Type 0 where
  pub each_worker : length p.parts ≡ n
  pub all_rows : SameBag p.relation.rows (together p.parts)

-- by cells, there is a positive share for each variable, and there are no more cells than workers
abbrev pub IsSharing : ℕ → Shape → Shuffle → Type 0
IsSharing n shape (ByCells shares) = IsShareVector (length shape.variables) n shares
IsSharing n shape ByKeys = ⊤
IsSharing n shape Broadcast = ⊤

-- each row of each list is as wide as its atom
abbrev pub AreWide : List ℕ → List Rows → Type 0
AreWide [] [] = ⊤
AreWide (width ∷ widths) (rows ∷ tables) =
    All (λ row. length row ≡ width) rows × AreWide widths tables
AreWide _ _ = ⊥

-- the items that are joined: as many as are given, placed where those are, and with their candidates
pub record IsJoined (n : ℕ) (shape : Shape) (given items : List PlacedRelation) : Type 0 where
  pub as_many : length items ≡ length given
  pub placed : All (IsPlaced n) given → All (IsPlaced n) items
  pub candidates : AreWide (widths_of shape) (rows_of given)
      → candidates_of shape (rows_of items) ≡ candidates_of shape (rows_of given)

-- there are workers, and no join has more cells than there are
pub record IsPlacing (p : Placing) : Type 0 where
  pub some_worker : 1 ≤ p.workers
  pub sharing : (number : ℕ) (shape : Shape) (given : List Rows)
      → IsSharing p.workers shape (p.shuffle number shape given)

-- whatever a script stores is placed: all workers' rows together are its rows
abbrev pub PartsHoldTheRows : Type 0
PartsHoldTheRows =
    (p : Placing) (files : List File) (c : CheckedTree) → IsPlacing p → IsTrue (is_of files c)
    → AreTyped files
    → All (λ (stored : Key × PlacedRelation). IsPlaced p.workers stored.1) (placed_stores p files c)

-- the relations that are placed are those that the script stores by its meaning
abbrev pub PlacedAreStored : Type 0
PlacedAreStored =
    (p : Placing) (files : List File) (c : CheckedTree)
    → map (λ (stored : Key × PlacedRelation). (stored.0, stored.1.relation))
    (placed_stores p files c) ≡ stored_by files c

-- a variable has a column, and its columns are in range
abbrev pub IsColumns : Shape → List ℕ → Type 0
IsColumns shape variable = (0 < length variable) × All (λ c. c < sum (widths_of shape)) variable

-- what the laws of joins ask: an item for each atom, placed and as wide as its atom, and variables with columns in range
pub record IsReady (n : ℕ) (shape : Shape) (given : List PlacedRelation) : Type 0 where
  pub some_atom : 0 < length shape.atoms
  pub as_many : length given ≡ length shape.atoms
  pub placed : All (IsPlaced n) given
  pub wide : AreWide (widths_of shape) (rows_of given)
  pub columns : All (IsColumns shape) shape.variables

-- so are the items of a term's join, and a grouping has a kind for each emitted column
abbrev pub HasReadyItems : ℕ → (Source → PlacedRelation) → TermTree → Type 0
HasReadyItems n value (Join shape sources) = IsReady n shape (map value sources)
HasReadyItems n value (Group shape sources kinds) =
    IsReady n shape (map value sources) × (length kinds ≡ length shape.emits)
HasReadyItems n value _ = ⊤

-- in a checked script each join's items are as the laws of joins ask, whatever steps come later
abbrev pub JoinsAreReady : Type 0
JoinsAreReady =
    (p : Placing) (files : List File) (c : CheckedTree) → IsPlacing p → IsTrue (is_of files c)
    → AreTyped files
    → All (λ (s : StepTree). HasReadyItems p.workers
    (placed_source p files (placed_steps p files c.steps)) s.term) c.steps

-- whatever the rules say, no join has more cells than there are workers
abbrev pub RuledIsPlacing : Type 0
RuledIsPlacing =
    (s : Settings) (rules : ℕ → ShuffleRule) → 1 ≤ s.workers → IsPlacing (placing_by s rules)

-- ---- what is joined

-- a join of the reduced rows has the candidates of the join
abbrev pub ReducedHaveTheCandidates : Type 0
ReducedHaveTheCandidates =
    (shape : Shape) (tables : List Rows) → AreWide (widths_of shape) tables
    → candidates_of shape (reduced_tables shape tables) ≡ candidates_of shape tables

-- the reduced rows are kept rows
abbrev pub ReducedAreKept : Type 0
ReducedAreKept =
    (shape : Shape) (tables : List Rows) (j : ℕ) (rows : Rows)
    → kept_of shape j (reduced_of shape tables j rows) ≡ reduced_of shape tables j rows

-- what is joined is as the laws of joins ask
abbrev pub JoinedAreJoined : Type 0
JoinedAreJoined =
    (n : ℕ) (reduce : Bool) (shape : Shape) (given : List PlacedRelation)
    → IsJoined n shape given (joined_items reduce shape given)

-- where a join is reduced, each row of an item that is joined, and so each that is sent, takes part in some combination of kept
-- rows that agrees on every variable
abbrev pub JoinedTakePart : Type 0
JoinedTakePart =
    (shape : Shape) (given : List PlacedRelation) → IsTrue (is_acyclic_shape shape) → (j : ℕ)
    → All (λ row. takes_part shape.variables (kept_tables shape (rows_of given)) j row ≡ true)
    (together (kept_parts shape j (slice_index_or (joined_items true shape given) j (placed_nothing 0))))

-- ---- where the rows of a candidate meet

-- some of the workers, none of them twice
abbrev pub AreWorkers : ℕ → List ℕ → Type 0
AreWorkers n ws = All (λ w. w < n) ws × IsTrue (all_different ws)

-- the destinations of a row are the numbers of the cells that agree with it
abbrev pub DestinationsAreCells : Type 0
DestinationsAreCells =
    (seed : ℕ) (shares : List ℕ) (shape : Shape) (j : ℕ) (row : Row) (w : ℕ)
    → (is_destination seed shares shape w j row ≡ true) ↔ IsDestination seed shares shape j row w

-- they are below the number of cells, and a row goes to none twice
abbrev pub DestinationsAreWorkers : Type 0
DestinationsAreWorkers =
    (seed : ℕ) (shares : List ℕ) (shape : Shape) (j : ℕ) (row : Row)
    → AreWorkers (product shares) (destinations seed shares shape j row)

-- each column of a variable is in the row and holds the value of its first one
abbrev pub IsTied : Row → List ℕ → Type 0
IsTied row [] = ⊥
IsTied row (c ∷ cs) = All (λ d. value_at row c ≡ value_at row d) cs × (c < length row)

-- rows as wide as their atoms, whose combined row has one value for each variable
pub record IsMatch (shape : Shape) (rows : List Row) : Type 0 where
  pub widths : map (λ (row : Row). length row) rows ≡ widths_of shape
  pub tied : All (IsTied (combined_row rows)) shape.variables

-- the rows of a candidate all go to a worker exactly where it is the meeting cell
abbrev pub CandidatesMeetAtOneCell : Type 0
CandidatesMeetAtOneCell =
    (seed : ℕ) (shares : List ℕ) (shape : Shape) (rows : List Row) → IsMatch shape rows
    → 0 < length rows
    → All (λ share. 1 ≤ share) shares → length shares ≡ length shape.variables → (w : ℕ)
    → ((j : ℕ) → j < length rows → is_destination seed shares shape w j (slice_index_or rows j []) ≡ true)
    ↔ (w ≡ meeting_cell seed shares shape (combined_row rows))

-- the candidates of the rows that go to a worker are the candidates whose meeting cell it is
abbrev pub CellsListTheirCandidates : Type 0
CellsListTheirCandidates =
    (seed : ℕ) (shares : List ℕ) (shape : Shape) (tables : List Rows) → 0 < length shape.atoms
    → All (IsColumns shape) shape.variables → AreWide (widths_of shape) tables
    → All (λ share. 1 ≤ share) shares → length shares ≡ length shape.variables → (w : ℕ)
    → candidates_of shape
    (map (λ (e : ℕ × Rows). filter (is_destination seed shares shape w e.0) e.1)
    (enumerate_from 0 tables))
    ≡ filter (λ row. meeting_cell seed shares shape row == w) (candidates_of shape tables)

-- ---- what is sent is enough

-- the candidates of the kept rows are all candidates
abbrev pub CandidatesAreKept : Type 0
CandidatesAreKept =
    (shape : Shape) (tables : List Rows) → AreWide (widths_of shape) tables
    → length tables ≡ length shape.atoms
    → candidates_of shape (map (λ (e : ℕ × Rows). kept_of shape e.0 e.1) (enumerate_from 0 tables))
    ≡ candidates_of shape tables

-- whether the row's key in the step that joins atom i has its home at w: a row of a prefix, and a row of the atom
abbrev pub prefix_is_at : ℕ → ℕ → Shape → ℕ → ℕ → Row → Bool
prefix_is_at seed n shape i w row = home_of seed (prefix_key shape i row) n == w

abbrev pub item_is_at : ℕ → ℕ → Shape → ℕ → ℕ → Row → Bool
item_is_at seed n shape i w row = home_of seed (item_key shape i row) n == w

-- the rows of a prefix, each with a row of the next atom behind it, that the columns of both don't rule out
abbrev pub extended : Shape → ℕ → Rows → Rows → Rows
extended shape i fronts rows =
    filter (passes_within (tests_of shape) (ties_of shape) (span_of_prefix (widths_of shape) (suc i)))
    (flat_map (λ front. map (λ row. front ++ row) rows) fronts)

-- the candidates of a longer prefix with one key are made of those of the shorter one and of the kept rows with this key
abbrev pub PrefixesMeetByKey : Type 0
PrefixesMeetByKey =
    (seed n : ℕ) (shape : Shape) (i : ℕ) (tables : List Rows) → AreWide (widths_of shape) tables
    → 0 < i → i < length tables → (w : ℕ)
    → filter (prefix_is_at seed n shape i w) (prefix_of shape (suc i) tables)
    ≡ extended shape i (filter (prefix_is_at seed n shape i w) (prefix_of shape i tables))
    (filter (item_is_at seed n shape i w) (kept_of shape i (slice_index_or tables i [])))

-- ---- parts are known as bags

-- two placed relations with the same rows at each worker, in any order
pub record IsSamePlaced (p q : PlacedRelation) : Type 0 where
  pub rows : SameBag p.relation.rows q.relation.rows
  pub parts : SameTables p.parts q.parts

-- one after another
pub data AreSamePlaced : List PlacedRelation → List PlacedRelation → Type 0 where
  none_placed : AreSamePlaced [] []
  one_placed : (p q : PlacedRelation) (ps qs : List PlacedRelation) → IsSamePlaced p q
      → AreSamePlaced ps qs
      → AreSamePlaced (p ∷ ps) (q ∷ qs)

-- the order of rows changes no worker's part of a join but in the order of its rows
abbrev pub PartsAreBags : Type 0
PartsAreBags =
    (n seed : ℕ) (shuffle : Shuffle) (shape : Shape) (given others : List PlacedRelation)
    → AreSamePlaced given others
    → SameTables (join_parts n seed shuffle shape given) (join_parts n seed shuffle shape others)

-- nor what is joined
abbrev pub JoinedAreOfBags : Type 0
JoinedAreOfBags =
    (reduce : Bool) (shape : Shape) (given others : List PlacedRelation)
    → AreSamePlaced given others
    → AreSamePlaced (joined_items reduce shape given) (joined_items reduce shape others)

-- ---- what is sent is what is received

-- each move is from one of n workers to one of them
abbrev pub AreAmong : ℕ → List Move → Type 0
AreAmong n moves = All (λ (m : Move). (m.from < n) × (m.to < n)) moves

-- over all workers as many rows are sent as received
abbrev pub IsBalanced : ℕ → List Move → Type 0
IsBalanced n moves =
    sum_by (sent moves) (range_with_len 0 n) ≡ sum_by (received moves) (range_with_len 0 n)

-- any moves among n workers
abbrev pub MovesBalance : Type 0
MovesBalance = (n : ℕ) (moves : List Move) → AreAmong n moves → IsBalanced n moves

-- in every exchange of a script rows go from workers to workers, and as many are sent as received
abbrev pub ExchangesBalance : Type 0
ExchangesBalance =
    (p : Placing) (files : List File) (c : CheckedTree) → IsPlacing p → IsTrue (is_of files c)
    → AreTyped files
    → All (λ (e : ℕ × PlacedExchange). AreAmong p.workers e.1.moves
    × IsBalanced p.workers e.1.moves) (exchanges_of p files c)
