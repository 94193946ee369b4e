-- What the two halves of a worker do.
--
--   IsFresh cells outlet            the outlet has sent nothing to any of so many cells
--   rows_sent outlet                 how many rows an outlet has sent in all
--   HasShipped xs outlet end         an outlet before and after these batches and the end marks
--                                    were sent
--   HasSentAll .. outlet end r       an outlet before and after all rows of a worker were sent, or
--                                    memory was refused
--   HasReceived atoms got parts      what was taken, put together atom by atom
use Rattle.std.specs.Prelude.{◌≡◌, ℕ, ◌<◌, ◌≤◌, List, [], ◌++◌, length, replicate, All, OnOk, OnErr, IfOk, Option, Some, IsSome, IsSomeAnd, Result, IsPermutation, slice_index_or, slice_set, sum_by}
use Rattle.rel_base.specs.declared.failure.Memory.{Memory}
use Rattle.exchange_channels.specs.declared.messages.Batch.{Batch}
use Rattle.exchange_channels.specs.declared.messages.Message.{Message}
use Rattle.exchange_channels.specs.Messages.{batches_of, rows_of, rows_of_atom, drained_rows}
use Rattle.exchange_channels.specs.Wirings.{OutletState, IntakeState, sent_to, cells_of, untaken, HasEachEnd}
use Rattle.rel_io.specs.declared.taps.Totals.{Totals}
use Rattle.rel_io.specs.Taps.{with_sent, with_got}
use Rattle.row_exchange.specs.declared.stations.Outgoing.{Outgoing}
use Rattle.row_exchange.specs.declared.stations.Incoming.{Incoming}
use Rattle.row_exchange.specs.Routes.{Row, Rows, rows_at, IsRouted}
use Rattle.row_exchange.specs.inner.Pairs.{rows_to, pairs_from}
use Rattle.row_exchange.specs.Exchanges.{IsBatch, IsSize}
use Rattle.row_exchange.specs.inner.Shipments.{Shipment, shipped, rows_in}

-- the outlet has sent nothing to any of so many cells
pub record IsFresh (cells : ℕ) (outlet : OutletState) : Type 0 where
  pub count : cells_of outlet.wiring ≡ cells
  pub nothing : outlet.sent ≡ replicate cells []

-- how many rows an outlet has sent in all
abbrev pub rows_sent : OutletState → ℕ
rows_sent outlet = sum_by rows_of outlet.sent

-- the batches were sent to their cells
pub record HasShipped (xs : List Shipment) (outlet end : OutletState) : Type 0 where
  pub wiring : end.wiring ≡ outlet.wiring
  pub sender : end.sender ≡ outlet.sender
  pub cells : length end.sent ≡ length outlet.sent
  pub rows_are : (w atom : ℕ) → w < length end.sent
      → rows_of_atom atom (batches_of (sent_to end w)) ≡ shipped xs w atom
  pub sized : (atoms most w : ℕ) → All (λ (s : Shipment). IsBatch atoms most s.1) xs
      → w < length end.sent → All (IsBatch atoms most) (batches_of (sent_to end w))
  pub count_is : rows_sent end ≡ rows_in xs

-- to each cell the rows that go there were sent, in batches of at most so many rows
pub record SendsAll (goes : ℕ → Row → List ℕ) (parts : List (List Rows)) (cells most worker : ℕ)
    (end : OutletState) : Type 0 where
  pub sized : (w : ℕ) → w < cells → All (IsBatch (length parts) most) (batches_of (sent_to end w))
  pub rows_are : (w atom : ℕ) → w < cells → atom < length parts
      → rows_of_atom atom (batches_of (sent_to end w))
      ≡ rows_to (goes atom) w (rows_at parts atom worker)
  pub count_is : rows_sent end ≡ pairs_from goes parts worker

-- all rows of a worker were sent, or memory was refused and none was
pub record HasSentAll (goes : ℕ → Row → List ℕ) (parts : List (List Rows)) (cells most worker : ℕ)
    (outlet end : OutletState) {X : Type 0} (r : Result X Memory) : Type 0 where
  pub wiring : end.wiring ≡ outlet.wiring
  pub sender : end.sender ≡ outlet.sender
  pub cells_are : length end.sent ≡ cells
  pub ok : OnOk r (SendsAll goes parts cells most worker end)
  pub err : OnErr r (rows_sent end ≡ 0)
  pub few : rows_sent end ≤ 2199023255552

-- for each atom the rows of the batches that were taken, as a bag
pub record HasReceived (atoms : ℕ) (got : List Message) (parts : List Rows) : Type 0 where
  pub count : length parts ≡ atoms
  pub rows_are : (atom : ℕ) → atom < atoms
      → IsPermutation (rows_of_atom atom (batches_of got)) (slice_index_or parts atom [])

-- for each atom the rows of what was drained, as a bag
pub record AreGathered (atoms : ℕ) (drained : List (ℕ × Batch)) (parts : List Rows) : Type 0 where
  pub count : length parts ≡ atoms
  pub rows_are : (atom : ℕ) → atom < atoms
      → IsPermutation (drained_rows atom drained) (slice_index_or parts atom [])

-- the same while some of it is left
pub record AreGatheredBut (atoms : ℕ) (drained left : List (ℕ × Batch))
    (parts : List Rows) : Type 0 where
  pub count : length parts ≡ atoms
  pub rows_are : (atom : ℕ) → atom < atoms
      → IsPermutation (drained_rows atom drained)
      (drained_rows atom left ++ slice_index_or parts atom [])

-- the rows of a batch are put behind those of its atom, where there is one of its number
pub record TakesIn (batch : Batch) (old new : List Rows) : Type 0 where
  pub within : batch.atom < length old
      → new ≡ slice_set old batch.atom (slice_index_or old batch.atom [] ++ batch.rows)
  pub past : length old ≤ batch.atom → new ≡ old

-- ---- stations

-- the outlet is there and has sent nothing
abbrev pub HasOutlet : ℕ → Option OutletState → Type 0
HasOutlet cells outlet = IsSomeAnd outlet (IsFresh cells)

-- a sending half may run
pub record IsReadyOut {W T : Type 0} (accepts : W → ℕ → Row → Type 0) (goes : W → ℕ → Row → List ℕ)
    (half : Outgoing W T) : Type 0 where
  pub routed : IsRouted (accepts half.route.now)
      (goes half.route.now) half.size.workers half.parts.now
  pub size : IsSize half.size
  pub worker : half.worker < half.size.workers
  pub outlet : HasOutlet half.size.workers half.outlet

-- a sending half before and after it ran
pub record HasGoneOut {W T : Type 0} (goes : W → ℕ → Row → List ℕ) (totals : T → Totals)
    (tag : T → ℕ) (before after : Outgoing W T) : Type 0 where
  pub outlet : OutletState
  pub was : before.outlet ≡ Some outlet
  pub end : OutletState
  pub is : after.end ≡ Some end
  pub sent : HasSentAll (goes before.route.now) before.parts.now before.size.workers
      before.size.batch before.worker outlet end after.sent
  pub told : totals after.tap ≡ with_sent (totals before.tap) (rows_sent end)
  pub same_tag : tag after.tap ≡ tag before.tap

-- a receiving half may run
abbrev pub IsReadyIn : {T : Type 0} → Incoming T → Type 0
IsReadyIn half = IsSome half.intake

-- a receiving half before and after it ran
pub record HasComeIn {T : Type 0} (totals : T → Totals) (tag : T → ℕ)
    (before after : Incoming T) : Type 0 where
  pub intake : IntakeState
  pub was : before.intake ≡ Some intake
  pub end : IntakeState
  pub is : after.end ≡ Some end
  pub same : untaken end ≡ intake
  pub ends : HasEachEnd intake.senders end.got
  pub received : IfOk after.received (HasReceived before.atoms end.got)
  pub told : totals after.tap ≡ with_got (totals before.tap) (rows_of end.got)
  pub same_tag : tag after.tap ≡ tag before.tap

-- what one worker does in an exchange: its two halves
pub record Station (W T : Type 0) : Type 0 where
  pub outgoing : Outgoing W T
  pub incoming : Incoming T

-- a station whose halves may run
pub record IsReadyStation {W T : Type 0} (accepts : W → ℕ → Row → Type 0)
    (goes : W → ℕ → Row → List ℕ) (s : Station W T) : Type 0 where
  pub out : IsReadyOut accepts goes s.outgoing
  pub intake : IsReadyIn s.incoming

-- a station before and after its halves ran
pub record HasRunStation {W T : Type 0} (goes : W → ℕ → Row → List ℕ) (totals : T → Totals)
    (tag : T → ℕ) (before after : Station W T) : Type 0 where
  pub out : HasGoneOut goes totals tag before.outgoing after.outgoing
  pub taken : HasComeIn totals tag before.incoming after.incoming
