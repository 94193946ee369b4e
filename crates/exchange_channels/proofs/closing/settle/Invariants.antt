-- the cells are as they were, and the first ones are settled
use Rattle.std.proofs.Common.{◌≡◌, ℕ, ◌<◌, get_or}
use Rattle.exchange_channels.specs.Ports.{PortState}
use Rattle.exchange_channels.specs.inner.Keeps.{IsSettled}
use Rattle.exchange_channels.proofs.closing.settle.Given as goal

abbrev pub invariant-loop-cell : goal.invariant-loop-cell
invariant-loop-cell l = record {
  same : l.cells ≡ l.initial.cells;
  settled : (k : ℕ) (d : PortState) → k < l.cell-index → IsSettled (get_or l.cells k d);
}
