-- What running a term at workers does: the rows that it leaves at each worker, and what its exchanges tell.
--
--   shown_moves e                         the moves whose rows the receipts of an exchange show
--   AreShown size moves receipts          receipts show these moves, one after another
--   all_sent, all_received, all_listed    how many rows a worker sends, receives and lists in exchanges
--   AreMoved .. exchanges before after    taps before and after these exchanges
--   AreFair .. before after               the taps stand in their order, and stay even if they were
--   IsMoved s number expected exchanges made   what a run gives: the rows at each worker, notes and receipts
--   IsTermRun ..                          what it does, whatever it answers
use Rattle.std.specs.Prelude.{◌≡◌, ℕ, ◌<◌, ◌==◌, List, [], ◌∷◌, length, map, filter, sum_by, Result, IfOk, IfErr, slice_index_or}
use Rattle.std.specs.List.{flat_map}
use Rattle.rel_base.specs.Bags.{SameBag}
use Rattle.rel_base.specs.Limits.{most_items}
use Rattle.rel_io.specs.declared.taps.Totals.{Totals}
use Rattle.exchange_channels.specs.Wirings.{ReceiptState}
use Rattle.myrial_ast.specs.Combinations.{Rows}
use Rattle.bag_laws.specs.Permuted.{SameTables}
use Rattle.algebra.specs.declared.notes.Exchange.{Exchange}
use Rattle.algebra.specs.declared.notes.Exchange.TheVariants as exchange
use Rattle.algebra.specs.declared.settings.Settings.{Settings}
use Rattle.row_exchange.specs.Moves.{Move, sent, received}
use Rattle.placement.specs.Exchanges.{PlacedExchange, traffic_note}
use Rattle.placement.specs.Runs.{size_of}
use Rattle.row_exchange.specs.declared.routes.Size.{Size}
use Rattle.row_exchange.specs.Exchanges.{AreTold, Shows}
use Rattle.routed_joins.specs.declared.moved.Moved.{Moved}

-- ---- receipts

-- the moves of one atom, as those of the first one
abbrev pub moves_alone : ℕ → List Move → List Move
moves_alone atom moves = map (λ (m : Move). record m { atom = 0 })
    (filter (λ (m : Move). m.atom == atom) moves)

-- the moves whose rows the receipts of an exchange show, one list for each receipt: a `diff` has one of the rows of each
-- operand, and any other exchange has one
abbrev pub shown_moves : PlacedExchange → List (List Move)
shown_moves e = of e.kind
  where
    of : Exchange → List (List Move)
    of exchange.Diff = moves_alone 0 e.moves ∷ moves_alone 1 e.moves ∷ []
    of kind = e.moves ∷ []

-- the receipts show these moves, one after another: of each the rows as bags
pub data AreShown (size : Size) : List (List Move) → List ReceiptState → Type 0 where
  no_receipt : AreShown size [] []
  a_receipt : (moves : List Move) (receipt : ReceiptState) (rest : List (List Move))
      (others : List ReceiptState) → Shows SameBag most_items size moves receipt
      → AreShown size rest others
      → AreShown size (moves ∷ rest) (receipt ∷ others)

-- ---- taps

-- how many rows worker u sends in all exchanges, and how many worker w receives and lists
abbrev pub all_sent : List PlacedExchange → ℕ → ℕ
all_sent exchanges u = sum_by (λ (e : PlacedExchange). sent e.moves u) exchanges

abbrev pub all_received : List PlacedExchange → ℕ → ℕ
all_received exchanges w = sum_by (λ (e : PlacedExchange). received e.moves w) exchanges

abbrev pub all_listed : List PlacedExchange → ℕ → ℕ
all_listed exchanges w = sum_by (λ (e : PlacedExchange). slice_index_or e.listed w 0) exchanges

module _ {T : Type 0} (totals : T → Totals) (tag : T → ℕ) where
  -- the taps before and after these exchanges: they were told of what the workers send, receive
  -- and list in these, and of nothing else
  abbrev pub AreMoved : ℕ → List PlacedExchange → List T → List T → Type 0
  AreMoved workers exchanges before after = AreTold totals tag workers
      (all_sent exchanges) (all_received exchanges) (all_listed exchanges) before after

  -- the taps stand in their order, and where as many rows were sent as received, as many are
  pub record AreFair (before after : List T) : Type 0 where
    pub count : length after ≡ length before
    pub tags : (k : ℕ) (d : T) → k < length before
        → tag (slice_index_or after k d) ≡ tag (slice_index_or before k d)
    pub even : sum_by (λ t. (totals t).sent) before ≡ sum_by (λ t. (totals t).got) before
        → sum_by (λ t. (totals t).sent) after ≡ sum_by (λ t. (totals t).got) after

-- ---- what a run gives, and what it does

-- at each worker these rows, as a bag; the notes and the receipts of these exchanges
pub record IsMoved (s : Settings) (number : ℕ) (expected : List Rows)
    (exchanges : List PlacedExchange) (made : Moved) : Type 0 where
  pub parts : SameTables expected made.parts
  pub traffic : made.traffic
      ≡ map (λ (e : PlacedExchange). traffic_note s.workers (number, e)) exchanges
  pub receipts : AreShown (size_of s) (flat_map shown_moves exchanges) made.receipts

-- what a run of a term does that comes to these rows by these exchanges: after every answer the taps are fair; on Ok they rose
-- by the exchanges; and its faults are these
pub record IsTermRun {T F : Type 0} (s : Settings) (number : ℕ) (expected : List Rows)
    (exchanges : List PlacedExchange) (totals : T → Totals) (tag : T → ℕ) (IsFault : F → Type 0)
    (before after : List T) (answer : Result Moved F) : Type 0 where
  pub fair : AreFair totals tag before after
  pub ok : IfOk answer (λ made. IsMoved s number expected exchanges made
      × AreMoved totals tag s.workers exchanges before after)
  pub err : IfErr answer IsFault
