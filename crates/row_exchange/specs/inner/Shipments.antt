-- Batches that are filled and sent.
--
--   Shipment                     a batch and the cell that it goes to
--   shipped xs w atom            the rows of an atom in the batches that go to w
--   rows_in xs                   how many rows the batches have
--   FillingState                 what a worker fills from the rows of one atom
--   gathered s w atom            the rows of an atom for w so far, in batches and not yet
--   counted s                    how many these are
use Rattle.std.specs.Prelude.{◌≡◌, ℕ, ◌+◌, ◌*◌, ◌==◌, ◌<◌, ◌≤◌, List, [], ◌++◌, if◌then◌else◌, length, All, slice_index_or, sum_by, replicate}
use Rattle.std.specs.List.{flat_map, range_with_len}
use Rattle.rel_base.specs.Limits.{most_workers}
use Rattle.rel_base.specs.Picks.{items_at}
use Rattle.exchange_channels.specs.declared.messages.Batch.{Batch}
use Rattle.exchange_channels.specs.Messages.{batch_rows}
use Rattle.row_exchange.specs.Routes.{Row, Rows, rows_at}
use Rattle.row_exchange.specs.inner.Pairs.{rows_to, pairs_of, pairs_from}
use Rattle.row_exchange.specs.Exchanges.{IsBatch}

-- a batch, behind the cell that it goes to
abbrev pub Shipment : Type 0
Shipment = ℕ × Batch

-- the rows of an atom in a batch, if it goes to w
abbrev pub shipped_in : ℕ → ℕ → Shipment → Rows
shipped_in w atom s = if s.0 == w then batch_rows atom s.1 else []

-- the rows of an atom in the batches that go to w, in order
abbrev pub shipped : List Shipment → ℕ → ℕ → Rows
shipped xs w atom = flat_map (shipped_in w atom) xs

-- how many rows the batches have
abbrev pub rows_in : List Shipment → ℕ
rows_in xs = sum_by (λ s. length s.1.rows) xs

-- a batch that may be sent: to one of so many cells, of one of so many atoms, with 1 to so many
-- rows
pub record IsShipment (cells atoms most : ℕ) (s : Shipment) : Type 0 where
  pub inside : s.0 < cells
  pub is_batch : IsBatch atoms most s.1

-- what a worker fills from the rows of one atom: for each cell the places of rows that wait, and
-- the batches
pub record FillingState : Type 0 where
  pub atom : ℕ
  pub atoms : ℕ
  pub rows : Rows
  pub batch : ℕ
  pub pending : List (List ℕ)
  pub filled : List Shipment

-- the places of the rows that wait for w
abbrev pub pending_for : FillingState → ℕ → List ℕ
pending_for s w = slice_index_or s.pending w []

-- places one behind another, from this one on
abbrev pub AreFrom : ℕ → List ℕ → Type 0
AreFrom from places = (k : ℕ) → k < length places → slice_index_or places k 0 ≡ from + k

-- the rows that wait for w
abbrev pub waiting : FillingState → ℕ → Rows
waiting s w = items_at s.rows (pending_for s w)

-- the rows of an atom for w so far: those in batches, and of the atom at hand those that wait
abbrev pub gathered : FillingState → ℕ → ℕ → Rows
gathered s w atom = shipped s.filled w atom ++ (if atom == s.atom then waiting s w else [])

-- how many rows are in batches and wait
abbrev pub counted : FillingState → ℕ
counted s = rows_in s.filled + sum_by (λ places. length places) s.pending

-- batches are as they may be sent, and no more rows wait than a batch may have
pub record IsFilling (s : FillingState) : Type 0 where
  pub some_row : 1 ≤ s.batch
  pub few_cells : length s.pending ≤ most_workers
  pub one_atom : s.atom < s.atoms
  pub sized : All (IsShipment (length s.pending) s.atoms s.batch) s.filled
  pub few : All (λ places. length places ≤ s.batch) s.pending
  pub inside : All (All (λ place. place < length s.rows)) s.pending

-- the rows, cells and sizes are as before
pub record IsSameWork (old new : FillingState) : Type 0 where
  pub atom : new.atom ≡ old.atom
  pub atoms : new.atoms ≡ old.atoms
  pub rows : new.rows ≡ old.rows
  pub batch : new.batch ≡ old.batch
  pub cells : length new.pending ≡ length old.pending

-- each cell has the rows of before, and of the atom at hand these more
pub record Gathers (more : ℕ → Rows) (count : ℕ) (old new : FillingState) : Type 0 where
  pub same_work : IsSameWork old new
  pub rows : (w atom : ℕ) → gathered new w atom
      ≡ gathered old w atom ++ (if atom == old.atom then more w else [])
  pub count_is : counted new ≡ counted old + count

-- what a worker begins to fill, where nothing waits
abbrev pub filling_of : ℕ → ℕ → Rows → ℕ → ℕ → List Shipment → FillingState
filling_of atom atoms rows batch cells filled =
    record {
      atom = atom;
      atoms = atoms;
      rows = rows;
      batch = batch;
      pending = replicate cells [];
      filled = filled;
    }

-- the batches have all rows, and are as they may be sent
pub record Finishes (s : FillingState) (xs : List Shipment) : Type 0 where
  pub sized : All (IsShipment (length s.pending) s.atoms s.batch) xs
  pub rows_are : (w atom : ℕ) → shipped xs w atom ≡ gathered s w atom
  pub count_is : rows_in xs ≡ counted s

-- nothing more
abbrev pub no_more : ℕ → Rows
no_more w = []

-- the row of this number
abbrev pub row_at : FillingState → ℕ → Row
row_at s number = slice_index_or s.rows number []

-- the batches of before and those of one more atom
pub record AddsAtom (goes : Row → List ℕ) (cells atoms most atom : ℕ) (rows : Rows)
    (old new : List Shipment) : Type 0 where
  pub sized : All (IsShipment cells atoms most) new
  pub rows_are : (w a : ℕ) → shipped new w a
      ≡ shipped old w a ++ (if a == atom then rows_to goes w rows else [])
  pub count_is : rows_in new ≡ rows_in old + pairs_of goes rows
  pub few : pairs_of goes rows ≤ 274877906944

-- the batches of the rows of the first atoms that lie at a worker
pub record IsFilledTo (goes : ℕ → Row → List ℕ) (parts : List (List Rows))
    (cells most worker done : ℕ) (xs : List Shipment) : Type 0 where
  pub sized : All (IsShipment cells (length parts) most) xs
  pub rows_are : (w a : ℕ) → a < done → shipped xs w a ≡ rows_to (goes a) w (rows_at parts a worker)
  pub none : (w a : ℕ) → done ≤ a → shipped xs w a ≡ []
  pub count_is : rows_in xs ≡ sum_by (λ a. pairs_of (goes a) (rows_at parts a worker))
      (range_with_len 0 done)
  pub few : rows_in xs ≤ done * 274877906944

-- the batches of all rows that lie at a worker
pub record IsFilled (goes : ℕ → Row → List ℕ) (parts : List (List Rows)) (cells most worker : ℕ)
    (xs : List Shipment) : Type 0 where
  pub sized : All (IsShipment cells (length parts) most) xs
  pub rows_are : (w a : ℕ) → a < length parts
      → shipped xs w a ≡ rows_to (goes a) w (rows_at parts a worker)
  pub count_is : rows_in xs ≡ pairs_from goes parts worker
  pub few : rows_in xs ≤ 2199023255552
