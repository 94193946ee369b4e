-- What an exchange does.
--
--   IsSize size                      so many workers, messages in an inbox and rows in a batch are
--                                    allowed
--   IsBatch atoms most batch         a batch of one of so many atoms, with 1 to so many rows
--   AreLow sums                      the sums of a tap are far from their end
--   of_all workers rows              how many rows all workers have together
--   AreTold .. sent got listed before after    taps before and after the workers sent, received and
--                                    listed so many rows
--   InOrder rows others              these are the same rows in the same order
--   Shows Same atoms size moves receipt    a receipt shows the rows that move from each worker to
--                                    each, in order or as a bag
--   IsGiven moves atoms workers given    each worker is given the rows that go to it
--   IsExchange ..                    what an exchange does, whatever it answers
use Rattle.std.specs.Prelude.{◌≡◌, ℕ, ◌+◌, ◌*◌, ◌<◌, ◌≤◌, List, [], length, sum_by, All, Result, IfOk, slice_index_or}
use Rattle.std.specs.List.{range_with_len}
use Rattle.rel_base.specs.Bags.{SameBag}
use Rattle.rel_base.specs.Limits.{most_workers, most_capacity, most_batch}
use Rattle.rel_base.specs.declared.failure.Memory.{Memory}
use Rattle.rel_io.specs.declared.taps.Totals.{Totals}
use Rattle.exchange_channels.specs.declared.messages.Batch.{Batch}
use Rattle.exchange_channels.specs.Messages.{rows_of_atom}
use Rattle.exchange_channels.specs.Wirings.{ReceiptState}
use Rattle.row_exchange.specs.declared.routes.Size.{Size}
use Rattle.row_exchange.specs.declared.exchanging.Exchanged.{Exchanged}
use Rattle.row_exchange.specs.Routes.{Rows}
use Rattle.row_exchange.specs.Moves.{Move, sent, received, rows_between, rows_given}

-- the workers, the messages that may wait and the rows of a batch are at least one each, and no
-- more than are allowed
pub record IsSize (size : Size) : Type 0 where
  pub some_worker : 1 ≤ size.workers
  pub few_workers : size.workers ≤ most_workers
  pub some_message : 1 ≤ size.capacity
  pub few_messages : size.capacity ≤ most_capacity
  pub some_row : 1 ≤ size.batch
  pub few_rows : size.batch ≤ most_batch

-- a batch of one of so many atoms, with 1 to so many rows
pub record IsBatch (atoms most : ℕ) (batch : Batch) : Type 0 where
  pub one_atom : batch.atom < atoms
  pub some_row : 1 ≤ length batch.rows
  pub few : length batch.rows ≤ most

-- ---- taps

-- so many rows more were sent, received and listed
abbrev pub with_more : Totals → ℕ → ℕ → ℕ → Totals
with_more sums sent got listed =
    record { sent = sums.sent + sent; got = sums.got + got; listed = sums.listed + listed }

-- the sums are far from their end
pub record AreLow (sums : Totals) : Type 0 where
  pub sent : sums.sent ≤ 9223372036854775808
  pub got : sums.got ≤ 9223372036854775808

-- no row of any worker
abbrev pub nothing : ℕ → ℕ
nothing worker = 0

-- how many rows all workers have together
abbrev pub of_all : ℕ → (ℕ → ℕ) → ℕ
of_all workers rows = sum_by rows (range_with_len 0 workers)

-- the taps, two for each worker and others behind them, before and after the workers sent,
-- received and listed so many rows: the first one of a worker rose by what it sent, the second one
-- by what it received and listed, and the others are as before
pub record AreTold {T : Type 0} (totals : T → Totals) (tag : T → ℕ) (workers : ℕ)
    (sent got listed : ℕ → ℕ) (before after : List T) : Type 0 where
  pub count : length after ≡ length before
  pub tags : (k : ℕ) (d : T) → k < length before
      → tag (slice_index_or after k d) ≡ tag (slice_index_or before k d)
  pub firsts : (u : ℕ) (d : T) → u < workers
      → totals (slice_index_or after (2 * u) d)
      ≡ with_more (totals (slice_index_or before (2 * u) d)) (sent u) 0 0
  pub seconds : (w : ℕ) (d : T) → w < workers
      → totals (slice_index_or after (2 * w + 1) d)
      ≡ with_more (totals (slice_index_or before (2 * w + 1) d)) 0 (got w) (listed w)
  pub others : (k : ℕ) (d : T) → 2 * workers ≤ k
      → slice_index_or after k d ≡ slice_index_or before k d

-- ---- the receipt and what was given

-- these are the same rows in the same order
abbrev pub InOrder : Rows → Rows → Type 0
InOrder rows others = rows ≡ others

-- the batches that a receipt shows from sender u to cell w
abbrev pub batches_between : ReceiptState → ℕ → ℕ → List Batch
batches_between receipt u w = slice_index_or (slice_index_or receipt.batches w []) u []

-- the receipt is of so many workers and messages, and shows for all workers u and w, and each atom,
-- the rows that move from u to w, in order or as a bag, in batches of 1 to so many rows
pub record Shows (Same : Rows → Rows → Type 0) (atoms : ℕ) (size : Size) (moves : List Move)
    (receipt : ReceiptState) : Type 0 where
  pub capacity : receipt.capacity ≡ size.capacity
  pub cells : length receipt.batches ≡ size.workers
  pub senders : (w : ℕ) → w < size.workers
      → length (slice_index_or receipt.batches w []) ≡ size.workers
  pub sized : (u w : ℕ) → u < size.workers → w < size.workers
      → All (IsBatch atoms size.batch) (batches_between receipt u w)
  pub rows_are : (u w atom : ℕ) → u < size.workers → w < size.workers
      → Same (rows_between moves atom u w) (rows_of_atom atom (batches_between receipt u w))

-- each worker has for each atom the rows that go to it, as a bag
pub record IsGiven (moves : List Move) (atoms workers : ℕ)
    (given : List (List Rows)) : Type 0 where
  pub each_worker : length given ≡ workers
  pub each_atom : (w : ℕ) → w < workers → length (slice_index_or given w []) ≡ atoms
  pub rows_are : (w atom : ℕ) → w < workers → atom < atoms
      → SameBag (rows_given moves atom w) (slice_index_or (slice_index_or given w []) atom [])

-- what an exchange gives: the numbers of rows sent and received are those of the moves, the receipt
-- shows them, and each worker is given them
pub record IsExchanged (moves : List Move) (atoms : ℕ) (size : Size) (sent_by got_by : ℕ → ℕ)
    (made : Exchanged) : Type 0 where
  pub sent_are : (u : ℕ) → u < size.workers → sent_by u ≡ sent moves u
  pub got_are : (w : ℕ) → w < size.workers → got_by w ≡ received moves w
  pub receipt : Shows InOrder atoms size moves made.receipt
  pub given : IsGiven moves atoms size.workers made.given

-- what an exchange of these moves does, whatever it answers: there are numbers of rows sent and
-- received by the workers, as many in all, of which the taps are told; and on Ok they are those of
-- the moves
pub record IsExchange {T : Type 0} (moves : List Move) (atoms : ℕ) (size : Size)
    (totals : T → Totals) (tag : T → ℕ) (before after : List T)
    (answer : Result Exchanged Memory) : Type 0 where
  pub sent : ℕ → ℕ
  pub got : ℕ → ℕ
  pub told : AreTold totals tag size.workers sent got nothing before after
  pub even : of_all size.workers sent ≡ of_all size.workers got
  pub ok : IfOk answer (IsExchanged moves atoms size sent got)
