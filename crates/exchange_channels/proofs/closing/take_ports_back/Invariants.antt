-- the ports that are left are the first ones; the cells of the others have them back, and the rest are as they were
use Rattle.std.proofs.Common.{◌≡◌, ℕ, ◌<◌, ◌≤◌, length, get_or, vec_len}
use Rattle.exchange_channels.specs.Ports.{PortState}
use Rattle.exchange_channels.specs.inner.Keeps.{keeper_with_returned}
use Rattle.exchange_channels.proofs.closing.take_ports_back.Given as goal

abbrev pub decreases-loop-port : goal.decreases-loop-port
decreases-loop-port l = vec_len l.ports

abbrev pub invariant-loop-port : goal.invariant-loop-port
invariant-loop-port l = record {
  within : vec_len l.ports ≤ length l.initial.ports.items;
  left : (k : ℕ) (d : PortState) → k < vec_len l.ports → get_or l.ports.items k d ≡ get_or l.initial.ports.items k d;
  back : (k : ℕ) (d e : PortState) → vec_len l.ports ≤ k → k < length l.initial.cells → get_or l.cells k d ≡ keeper_with_returned (get_or l.initial.cells k d) (get_or l.initial.ports.items k e).knows.sent;
  rest : (k : ℕ) (d : PortState) → k < vec_len l.ports → get_or l.cells k d ≡ get_or l.initial.cells k d;
}
