-- Where the rows of relations lie.
--
--   PlacedRelation                     a relation, and its rows at each worker
--   Shuffle                            how the rows of a join's atoms come together
--   Placing                            the workers, the hash seed, whether joins are reduced, and the shuffle of each
--   placed_file n relation             a file's rows, dealt to the workers in turn
--   prefix_key, item_key               the keys of a step of a join that goes two at a time
--   staying_atom shape given           the atom whose rows stay where they lie
--   joined_items reduce shape given    what is joined: reduced rows, where they are asked for and can be had
--   join_parts n seed shuffle ..       the rows that each worker lists of a join
--   term_parts p number value t        the rows of a term at each worker
--   placed_step p files results s      the relation of a step with its parts
--   placed_stores p files checked      what a checked script stores, with the parts at each worker
use Rattle.std.specs.Prelude.{ℕ, ◌-◌, ◌%◌, Bool, not, ◌&&◌, if◌then◌else◌, ◌==◌, nat_lt, List, [], ◌∷◌, ◌++◌, map, filter, length, set, slice_index_or, find, unwrap_or}
use Rattle.std.specs.List.{flat_map, enumerate_from, range_with_len, list_any}
use Rattle.rel_base.specs.declared.names.Key.{Key}
use Rattle.rel_base.specs.Keys.{File}
use Rattle.rel_base.specs.Relations.{RelationState}
use Rattle.myrial_ast.specs.Scalars.{value_at}
use Rattle.myrial_ast.specs.Combinations.{Row, Rows, listed_from}
use Rattle.myrial_ast.specs.Groups.{Kinds, key_of}
use Rattle.myrial_ast.specs.KeptRows.{Span, lies_in, span_of_item, span_of_prefix, put_at}
use Rattle.algebra.specs.declared.terms.Source.{Source}
use Rattle.algebra.specs.declared.terms.StoreStep.{StoreStep}
use Rattle.algebra.specs.Trees.{Shape, TermTree, Same, Empty, UnionAll, Diff, Distinct, Join, Group, StepTree, CheckedTree}
use Rattle.algebra.specs.Shapes.{widths_of, candidates_of, kept_of, reduced_of, is_acyclic_shape, listed_of}
use Rattle.algebra.specs.Meanings.{found, run, term_rows, no_relation}
use Rattle.hash_partition.specs.Hashing.{home_of}
use Rattle.placement.specs.Destinations.{first_in, meeting_cell}

-- a relation, and where its rows lie: a list for each worker
pub record PlacedRelation : Type 0 where
  pub relation : RelationState
  pub parts : List Rows

-- how the rows of a join's atoms come together: at cells with these shares, two atoms at a time by the key that they share, or
-- where the rows of one atom lie, to which all others go whole
pub data Shuffle : Type 0 where
  ByCells : (shares : List ℕ) → Shuffle
  ByKeys : Shuffle
  Broadcast : Shuffle

-- the number of workers and the hash seed; whether rows that are in no answer go before a join; and for each join its shuffle,
-- which is a value of its own for each statement and may depend on the rows that are joined
pub record Placing : Type 0 where
  pub workers : ℕ
  pub seed : ℕ
  pub reduce : Bool
  pub shuffle : ℕ → Shape → List Rows → Shuffle

-- the rows at worker w
abbrev pub part : PlacedRelation → ℕ → Rows
part p w = slice_index_or p.parts w []

-- one for each worker, by its number
abbrev pub by_worker : {X : Type 0} → ℕ → (ℕ → X) → List X
by_worker workers f = map f (range_with_len 0 workers)

-- a relation without rows, for a source that isn't there
abbrev pub placed_nothing : ℕ → PlacedRelation
placed_nothing workers = record { relation = no_relation; parts = by_worker workers (λ w. []) }

-- all workers' rows together
abbrev pub together : List Rows → Rows
together parts = flat_map (λ rows. rows) parts

-- at each worker the rows that have their home there
abbrev pub parts_by_home : ℕ → (Row → ℕ) → Rows → List Rows
parts_by_home workers home rows = by_worker workers (λ w. filter (λ row. home row == w) rows)

-- row number i of a file, from 0, lies at worker i mod the number of workers
abbrev pub placed_file : ℕ → RelationState → PlacedRelation
placed_file workers r = record {
  relation = r;
  parts = by_worker workers
      (λ w. map (λ e. e.1) (filter (λ e. e.0 % workers == w) (enumerate_from 0 r.rows)));
}

-- ---- two at a time: the key of a step is the values of the variables that have columns on both sides

-- the variables with columns in both spans, in order
abbrev pub shared : Span → Span → Shape → List (List ℕ)
shared left right shape =
    filter (λ v. list_any (lies_in left) v && list_any (lies_in right) v) shape.variables

-- the value of each variable in its first column of the span; the row's columns stand where they do in the combined row
abbrev pub values_in : Span → List (List ℕ) → Row → Row
values_in span variables row = map (λ v. value_at row (unwrap_or (first_in span v) 0)) variables

-- what a candidate of the first i atoms is sent by in the step that joins atom i, counted from 0
abbrev pub prefix_key : Shape → ℕ → Row → Row
prefix_key shape i row =
    let left = span_of_prefix (widths_of shape) i in
    values_in left (shared left (span_of_item (widths_of shape) i) shape) row

-- what a row of atom i is sent by in this step
abbrev pub item_key : Shape → ℕ → Row → Row
item_key shape i row =
    let own = span_of_item (widths_of shape) i in
    values_in own (shared (span_of_prefix (widths_of shape) i) own shape) (put_at own.from row)

-- ---- broadcast: the rows of one atom stay

-- whether no size is greater than that of atom j
abbrev pub is_most : List ℕ → ℕ → Bool
is_most sizes j = not (list_any (nat_lt (slice_index_or sizes j 0)) sizes)

-- the atom with the most kept rows, the first of them at a tie
abbrev pub staying_atom : Shape → List Rows → ℕ
staying_atom shape given =
    let sizes = map (λ e. length (kept_of shape e.0 e.1)) (enumerate_from 0 given) in
    unwrap_or (find (is_most sizes) (range_with_len 0 (length given))) 0

-- ---- joins

-- the rows of each of these relations
abbrev pub rows_of : List PlacedRelation → List Rows
rows_of given = map (λ (p : PlacedRelation). p.relation.rows) given

-- the reduced rows of an item, where they lie
abbrev pub reduced_item : Shape → List Rows → ℕ → PlacedRelation → PlacedRelation
reduced_item shape tables j p = record {
  relation = record {
    schema = p.relation.schema;
    rows = reduced_of shape tables j p.relation.rows;
  };
  parts = map (reduced_of shape tables j) p.parts;
}

-- those of each item
abbrev pub reduced_items : Shape → List PlacedRelation → List PlacedRelation
reduced_items shape given =
    map (λ (e : ℕ × PlacedRelation). reduced_item shape (rows_of given) e.0 e.1) (enumerate_from 0 given)

-- what is joined: the reduced rows where they are asked for and the shape is acyclic, and else all
abbrev pub joined_items : Bool → Shape → List PlacedRelation → List PlacedRelation
joined_items reduce shape given =
    if reduce && is_acyclic_shape shape then reduced_items shape given else given

-- the number of the last atom
abbrev pub last_atom : Shape → ℕ
last_atom shape = length shape.atoms - 1

-- what each worker lists of a join of several atoms: the candidates whose meeting cell it is; those whose key in the last step
-- has its home there; or those that its own rows of the atom that stays are part of
abbrev pub join_parts : ℕ → ℕ → Shuffle → Shape → List PlacedRelation → List Rows
join_parts n seed (ByCells shares) shape given =
    map (listed_from shape.arith shape.emits)
    (parts_by_home n (meeting_cell seed shares shape) (candidates_of shape (rows_of given)))
join_parts n seed ByKeys shape given =
    map (listed_from shape.arith shape.emits)
    (parts_by_home n (λ row. home_of seed (prefix_key shape (last_atom shape) row) n)
    (candidates_of shape (rows_of given)))
join_parts n seed Broadcast shape given =
    let j = staying_atom shape (rows_of given) in
    map (λ own. listed_of shape (set (rows_of given) j own)) (slice_index_or given j (placed_nothing n)).parts

-- the listed rows at each worker: those of one atom where its rows lie, those of several by the statement's shuffle
abbrev pub listed_parts : Placing → ℕ → Shape → List PlacedRelation → List Rows
listed_parts p number shape (one ∷ []) = map (λ own. listed_of shape (own ∷ [])) one.parts
listed_parts p number shape given =
    let items = joined_items p.reduce shape given in
    join_parts p.workers p.seed (p.shuffle number shape (rows_of items)) shape items

-- ---- terms

-- at each worker the rows whose key of all columns has its home there
abbrev pub parts_by_row : Placing → Rows → List Rows
parts_by_row p rows = parts_by_home p.workers (λ row. home_of p.seed row p.workers) rows

-- at each worker the groups whose key has its home there
abbrev pub parts_by_key : Placing → Kinds → Rows → List Rows
parts_by_key p kinds rows =
    parts_by_home p.workers (λ row. home_of p.seed (key_of kinds row) p.workers) rows

-- the rows of a term at each worker, where `value` gives what its sources stand for
abbrev pub term_parts : Placing → ℕ → (Source → PlacedRelation) → TermTree → List Rows
term_parts p number value (Same s) = (value s).parts
term_parts p number value Empty = by_worker p.workers (λ w. [])
term_parts p number value (UnionAll s t) =
    by_worker p.workers (λ w. part (value s) w ++ part (value t) w)
term_parts p number value (Diff s t) =
    parts_by_row p (term_rows (λ o. (value o).relation.rows) (Diff s t))
term_parts p number value (Distinct s) =
    parts_by_row p (term_rows (λ o. (value o).relation.rows) (Distinct s))
term_parts p number value (Join shape sources) = listed_parts p number shape (map value sources)
term_parts p number value (Group shape sources kinds) =
    parts_by_key p kinds (term_rows (λ o. (value o).relation.rows) (Group shape sources kinds))

-- ---- scripts

-- each file, dealt to the workers
abbrev pub placed_files : Placing → List File → List PlacedRelation
placed_files p files = map (λ (f : File). placed_file p.workers f.1) files

-- what a source stands for, where earlier steps have these results
abbrev pub placed_source : Placing → List File → List (ℕ × PlacedRelation) → Source → PlacedRelation
placed_source p files results o = found (placed_nothing p.workers) (placed_files p files) results o

-- the relation of a step and its parts, where earlier steps have these results
abbrev pub placed_step : Placing → List File → List (ℕ × PlacedRelation) → StepTree → PlacedRelation
placed_step p files results s = record {
  relation = record {
    schema = s.schema;
    rows = term_rows (λ o. (placed_source p files results o).relation.rows) s.term;
  };
  parts = term_parts p s.statement (placed_source p files results) s.term;
}

-- the relation of each step and its parts, by the number of its statement
abbrev pub placed_steps : Placing → List File → List StepTree → List (ℕ × PlacedRelation)
placed_steps p files steps = run (placed_step p files) steps

-- what the stores store, in their order, each with its parts
abbrev pub placed_stores : Placing → List File → CheckedTree → List (Key × PlacedRelation)
placed_stores p files c =
    map (λ (s : StoreStep). (s.key, placed_source p files (placed_steps p files c.steps) s.source)) c.stores
