-- the end mark was sent through each port before this one, and the others are as they were
use Rattle.std.proofs.Common.{◌≡◌, ℕ, ◌<◌, ◌≤◌, get_or}
use Rattle.exchange_channels.specs.Ports.{PortState}
use Rattle.exchange_channels.specs.Messages.{end_of}
use Rattle.exchange_channels.specs.inner.Outlets.{port_with_sent}
use Rattle.exchange_channels.proofs.outlets.end_each.Given as goal

abbrev pub invariant-loop-port : goal.invariant-loop-port
invariant-loop-port g l = record {
  ended : (k : ℕ) (d : PortState) → k < l.port-index → get_or l.ports k d ≡ port_with_sent (get_or l.initial.ports k d) (end_of l.sender);
  others : (k : ℕ) (d : PortState) → l.port-index ≤ k → get_or l.ports k d ≡ get_or l.initial.ports k d;
}
