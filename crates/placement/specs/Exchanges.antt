-- The exchanges of scripts: what each moves, and how many rows each worker lists after it.
--
--   PlacedExchange                         an exchange: its kind, its moves, and the listed rows at each worker
--   by_cells, by_keys, by_broadcast        what the rows of a join's atoms do under each shuffle
--   to_home p key parts                    each row goes to the home of its key
--   shuffle_exchanges n seed shuffle ..    the exchanges of a join of several atoms
--   term_exchanges p number value t        the exchanges of a term, in the order in which they are done
--   exchanges_of p files checked           the exchanges of the needed steps
--   traffic_of p files checked             their numbers of rows received and listed
use Rattle.std.specs.Prelude.{ℕ, suc, ◌-◌, ◌==◌, if◌then◌else◌, List, [], ◌∷◌, ◌++◌, map, length, slice_index_or}
use Rattle.std.specs.List.{flat_map, enumerate_from, range_with_len}
use Rattle.rel_base.specs.Keys.{File}
use Rattle.myrial_ast.specs.Combinations.{Row, Rows}
use Rattle.myrial_ast.specs.Groups.{Kinds, key_of}
use Rattle.myrial_ast.specs.Partials.{partial_kinds, partial_rows}
use Rattle.algebra.specs.declared.notes.Exchange.{Exchange}
use Rattle.algebra.specs.declared.notes.Exchange.TheVariants as exchange
use Rattle.algebra.specs.declared.notes.Traffic.{Traffic}
use Rattle.algebra.specs.declared.terms.Source.{Source}
use Rattle.algebra.specs.Trees.{Shape, TermTree, Diff, Distinct, Join, Group, StepTree, CheckedTree}
use Rattle.algebra.specs.Shapes.{kept_of, prefix_of}
use Rattle.algebra.specs.Meanings.{needed_steps}
use Rattle.hash_partition.specs.Hashing.{home_of}
use Rattle.placement.specs.Destinations.{destinations}
use Rattle.placement.specs.Layouts.{PlacedRelation, placed_nothing, Placing, Shuffle, ByCells, ByKeys, Broadcast, by_worker, parts_by_home, rows_of, joined_items, prefix_key, item_key, staying_atom, listed_parts, term_parts, placed_source, placed_steps}
use Rattle.row_exchange.specs.Moves.{Move, Sending, moves_of, received}

-- an exchange: its kind, the moves of its rows, and how many rows each worker lists after it
pub record PlacedExchange : Type 0 where
  pub kind : Exchange
  pub moves : List Move
  pub listed : List ℕ

-- the kept rows of atom j, where they lie
abbrev pub kept_parts : Shape → ℕ → PlacedRelation → List Rows
kept_parts shape j p = map (kept_of shape j) p.parts

-- the number of rows at each worker
abbrev pub row_counts : List Rows → List ℕ
row_counts parts = map (λ rows. length rows) parts

-- ---- joins of several atoms

-- by cells, each kept row goes to its destinations
abbrev pub by_cells : ℕ → List ℕ → Shape → List PlacedRelation → List Sending
by_cells seed shares shape given =
    map (λ e. record {
      parts = kept_parts shape e.0 e.1;
      goes_to = destinations seed shares shape e.0;
    }) (enumerate_from 0 given)

-- by broadcast, the kept rows of each atom but the one that stays go to all workers
abbrev pub by_broadcast : ℕ → Shape → List PlacedRelation → List Sending
by_broadcast n shape given =
    let j = staying_atom shape (rows_of given) in
    map (λ e. record {
      parts = kept_parts shape e.0 e.1;
      goes_to = λ row. if e.0 == j then [] else range_with_len 0 n;
    })
    (enumerate_from 0 given)

-- the candidates of the first i atoms, at least one, where they lie before atom i joins them: of one atom its kept rows where
-- those lie, and of more where the step before listed them
abbrev pub prefix_parts : ℕ → ℕ → Shape → List PlacedRelation → ℕ → List Rows
prefix_parts n seed shape given i =
    if i == 1 then kept_parts shape 0 (slice_index_or given 0 (placed_nothing n))
    else parts_by_home n (λ row. home_of seed (prefix_key shape (i - 1) row) n)
    (prefix_of shape i (rows_of given))

-- two at a time, in the step that joins atom i the candidates of the atoms before it and its kept rows go to the homes of their
-- keys
abbrev pub by_keys : ℕ → ℕ → Shape → List PlacedRelation → ℕ → List Sending
by_keys n seed shape given i =
    record {
      parts = prefix_parts n seed shape given i;
      goes_to = λ row. home_of seed (prefix_key shape i row) n ∷ [];
    }
    ∷ record {
      parts = kept_parts shape i (slice_index_or given i (placed_nothing n));
      goes_to = λ row. home_of seed (item_key shape i row) n ∷ [];
    } ∷ []

-- the one exchange by cells, after which the workers have listed these parts
abbrev pub cells_exchange : ℕ → List ℕ → Shape → List PlacedRelation → List Rows → PlacedExchange
cells_exchange seed shares shape given parts =
    record {
      kind = exchange.Hc;
      moves = moves_of (by_cells seed shares shape given);
      listed = row_counts parts;
    }

-- the one exchange by broadcast
abbrev pub broadcast_exchange : ℕ → Shape → List PlacedRelation → List Rows → PlacedExchange
broadcast_exchange n shape given parts =
    record { kind = exchange.Br; moves = moves_of (by_broadcast n shape given); listed = row_counts parts }

-- the step that joins atom i, which is step i + 1: after the last one the listed rows stand, after another the candidates
abbrev pub key_exchange : ℕ → ℕ → Shape → List PlacedRelation → List Rows → ℕ → PlacedExchange
key_exchange n seed shape given parts i = record {
  kind = exchange.Rs (suc i);
  moves = moves_of (by_keys n seed shape given i);
  listed = row_counts (if suc i == length given then parts else prefix_parts n seed shape given (suc i));
}

-- the exchanges of a join of several atoms, after which the workers have listed these parts
abbrev pub shuffle_exchanges : ℕ → ℕ → Shuffle → Shape → List PlacedRelation → List Rows
    → List PlacedExchange
shuffle_exchanges n seed (ByCells shares) shape given parts =
    cells_exchange seed shares shape given parts ∷ []
shuffle_exchanges n seed Broadcast shape given parts = broadcast_exchange n shape given parts ∷ []
shuffle_exchanges n seed ByKeys shape given parts =
    map (key_exchange n seed shape given parts) (range_with_len 1 (length given - 1))

-- the exchanges of a join: of one atom there is none
abbrev pub join_exchanges : Placing → ℕ → Shape → List PlacedRelation → List PlacedExchange
join_exchanges p number shape (one ∷ []) = []
join_exchanges p number shape given =
    let items = joined_items p.reduce shape given in
    shuffle_exchanges p.workers p.seed (p.shuffle number shape (rows_of items)) shape items
    (listed_parts p number shape given)

-- ---- terms

-- each row goes to the home of its key
abbrev pub to_home : Placing → (Row → Row) → List Rows → Sending
to_home p key parts =
    record { parts = parts; goes_to = λ row. home_of p.seed (key row) p.workers ∷ [] }

-- a key of all columns
abbrev pub whole_row : Row → Row
whole_row row = row

-- the rows of the operands of a `diff` or of a `distinct` go to the homes of all their columns
abbrev pub row_exchange : Placing → Exchange → List PlacedRelation → List Rows → PlacedExchange
row_exchange p kind given parts = record {
  kind = kind;
  moves = moves_of (map (λ (r : PlacedRelation). to_home p whole_row r.parts) given);
  listed = row_counts parts;
}

-- the partial rows of what each worker listed: one for each key that occurs there
abbrev pub partial_sending : Placing → Kinds → List Rows → Sending
partial_sending p kinds listed =
    to_home p (key_of (partial_kinds kinds)) (map (partial_rows kinds) listed)

-- a grouping sends the partial rows of the listed rows to the homes of their keys
abbrev pub group_exchange : Placing → Kinds → List Rows → List Rows → PlacedExchange
group_exchange p kinds listed parts =
    record {
      kind = exchange.Group;
      moves = moves_of (partial_sending p kinds listed ∷ []);
      listed = row_counts parts;
    }

-- the exchanges of a term, in the order in which they are done
abbrev pub term_exchanges : Placing → ℕ → (Source → PlacedRelation) → TermTree → List PlacedExchange
term_exchanges p number value (Diff s t) =
    row_exchange p exchange.Diff (value s ∷ value t ∷ []) (term_parts p number value (Diff s t))
    ∷ []
term_exchanges p number value (Distinct s) =
    row_exchange p exchange.Distinct (value s ∷ []) (term_parts p number value (Distinct s)) ∷ []
term_exchanges p number value (Join shape sources) =
    join_exchanges p number shape (map value sources)
term_exchanges p number value (Group shape sources kinds) =
    join_exchanges p number shape (map value sources)
    ++ group_exchange p kinds (listed_parts p number shape (map value sources))
    (term_parts p number value (Group shape sources kinds))
    ∷ []
term_exchanges p number value _ = []

-- ---- scripts

-- the exchanges of the needed steps, each with the number of its statement
abbrev pub exchanges_of : Placing → List File → CheckedTree → List (ℕ × PlacedExchange)
exchanges_of p files c =
    let results = placed_steps p files c.steps in
    flat_map (λ (s : StepTree). map (λ e. (s.statement, e))
    (term_exchanges p s.statement (placed_source p files results) s.term))
    (needed_steps c.stores c.steps)

-- the numbers of an exchange
abbrev pub traffic_note : ℕ → ℕ × PlacedExchange → Traffic
traffic_note n e =
    record {
      statement = e.0;
      exchange = e.1.kind;
      received = by_worker n (received e.1.moves);
      listed = e.1.listed;
    }

-- the numbers of the exchanges of the needed steps, in order
abbrev pub traffic_of : Placing → List File → CheckedTree → List Traffic
traffic_of p files c = map (traffic_note p.workers) (exchanges_of p files c)
