-- the cells so far have made the sender, and the others are as they were
use Rattle.std.proofs.Common.{◌≡◌, ℕ, ◌<◌, ◌≤◌, get_or, take, map}
use Rattle.exchange_channels.specs.Ports.{PortState}
use Rattle.exchange_channels.specs.inner.Keeps.{next_sender_of, keeper_with_sender}
use Rattle.exchange_channels.proofs.wiring.make_ports.Given as goal

abbrev pub invariant-loop-cell : goal.invariant-loop-cell
invariant-loop-cell l = record {
  ports : l.ports.items ≡ map next_sender_of (take l.cell-index l.initial.cells);
  made : (k : ℕ) (d : PortState) → k < l.cell-index → get_or l.cells k d ≡ keeper_with_sender (get_or l.initial.cells k d);
  others : (k : ℕ) (d : PortState) → l.cell-index ≤ k → get_or l.cells k d ≡ get_or l.initial.cells k d;
}
