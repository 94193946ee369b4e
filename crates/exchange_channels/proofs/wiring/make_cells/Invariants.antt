-- so many cells were made as there were rounds
use Rattle.std.proofs.Common.{◌≡◌, length, map, All}
use Rattle.exchange_channels.specs.inner.Keeps.{IsKept, receiver_of}
use Rattle.exchange_channels.proofs.wiring.make_cells.Given as goal

abbrev pub invariant-loop-cell : goal.invariant-loop-cell
invariant-loop-cell l = record {
  count : length l.keepers.items ≡ l._cell;
  kept : All (IsKept l.capacity 0) l.keepers.items;
  receivers : l.receivers.items ≡ map receiver_of l.keepers.items;
}
