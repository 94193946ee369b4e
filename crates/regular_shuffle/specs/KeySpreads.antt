-- Rows that go to the homes of their keys: what goes where, and what is answered.
--
--   HasColumns columns row                 a row has a value in each of these columns
--   key_home seed workers columns row      the worker of the key that a row has in these columns
--   by_key_home seed workers columns parts each row goes from where it lies to the home of its key
--   moves_by_key seed workers columns parts   the moves of these rows
--   IsSpread ..                            what a spread by key gives
--   IsSpreadByKey ..                       what it does, whatever it answers
use Rattle.std.specs.Prelude.{◌≡◌, ℕ, ◌<◌, List, [], ◌∷◌, length, All, Result, IfOk, slice_index_or}
use Rattle.rel_base.specs.Bags.{SameBag}
use Rattle.rel_base.specs.declared.failure.Memory.{Memory}
use Rattle.rel_io.specs.declared.taps.Totals.{Totals}
use Rattle.exchange_channels.specs.Wirings.{ReceiptState}
use Rattle.myrial_ast.specs.Combinations.{Row, Rows}
use Rattle.hash_partition.specs.Hashing.{key_of, home_of}
use Rattle.placement.specs.Layouts.{together, parts_by_home}
use Rattle.row_exchange.specs.Moves.{Move, Sending, moves_of, sent, received}
use Rattle.row_exchange.specs.Exchanges.{nothing, of_all, AreTold, InOrder, Shows}
use Rattle.row_exchange.specs.declared.routes.Size.{Size}

-- a row has a value in each of these columns
abbrev pub HasColumns : List ℕ → Row → Type 0
HasColumns columns row = All (λ column. column < length row) columns

-- the worker of the key that a row has in these columns
abbrev pub key_home : ℕ → ℕ → List ℕ → Row → ℕ
key_home seed workers columns row = home_of seed (key_of row columns) workers

-- each row goes from where it lies to the home of its key
abbrev pub by_key_home : ℕ → ℕ → List ℕ → List Rows → Sending
by_key_home seed workers columns parts =
    record { parts = parts; goes_to = λ row. key_home seed workers columns row ∷ [] }

-- the moves of these rows, which are atom 0 of their exchange
abbrev pub moves_by_key : ℕ → ℕ → List ℕ → List Rows → List Move
moves_by_key seed workers columns parts = moves_of (by_key_home seed workers columns parts ∷ [])

-- each worker has, as a bag, the rows whose key has its home there; the receipt shows the moves,
-- and the numbers of rows sent and received are those of the moves
pub record IsSpread (seed : ℕ) (columns : List ℕ) (parts : List Rows) (size : Size)
    (sent_by got_by : ℕ → ℕ) (made : List Rows) (receipt : ReceiptState) : Type 0 where
  pub each_worker : length made ≡ size.workers
  pub rows_are : (w : ℕ) → w < size.workers
      → SameBag (slice_index_or
      (parts_by_home size.workers (key_home seed size.workers columns) (together parts)) w [])
      (slice_index_or made w [])
  pub receipt_shows : Shows InOrder 1 size (moves_by_key seed size.workers columns parts) receipt
  pub sent_are : (u : ℕ) → u < size.workers
      → sent_by u ≡ sent (moves_by_key seed size.workers columns parts) u
  pub got_are : (w : ℕ) → w < size.workers
      → got_by w ≡ received (moves_by_key seed size.workers columns parts) w

-- what a spread by key does, whatever it answers: there are numbers of rows sent and received by
-- the workers, as many in all, of which alone the taps are told
pub record IsSpreadByKey {T : Type 0} (seed : ℕ) (columns : List ℕ) (parts : List Rows)
    (size : Size) (totals : T → Totals) (tag : T → ℕ) (before after : List T)
    (answer : Result (List Rows × ReceiptState) Memory) : Type 0 where
  pub sent_by : ℕ → ℕ
  pub got_by : ℕ → ℕ
  pub told : AreTold totals tag size.workers sent_by got_by nothing before after
  pub even : of_all size.workers sent_by ≡ of_all size.workers got_by
  pub ok : IfOk answer (λ made. IsSpread seed columns parts size sent_by got_by made.0 made.1)
