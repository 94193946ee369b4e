-- each cell has back what the outlets so far have sent to it
use Rattle.std.proofs.Common.{◌≡◌, ℕ, ◌<◌, length, get_or, map}
use Rattle.exchange_channels.specs.Ports.{PortState}
use Rattle.exchange_channels.specs.Wirings.{sent_to}
use Rattle.exchange_channels.specs.inner.Keeps.{keeper_with_all}
use Rattle.exchange_channels.proofs.closing.take_outlets_back.Given as goal

abbrev pub invariant-loop-out : goal.invariant-loop-out
invariant-loop-out l =
    (k : ℕ) (d : PortState) → k < length l.initial.cells → get_or l.cells k d ≡ keeper_with_all (get_or l.initial.cells k d) (map (λ out. sent_to out k) l.yielded)
