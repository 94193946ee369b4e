-- the cells so far have their intakes back, which took every end mark, and the others are as they were
use Rattle.std.proofs.Common.{◌≡◌, ℕ, ◌<◌, ◌≤◌, length, get_or, All}
use Rattle.exchange_channels.specs.Ports.{PortState}
use Rattle.exchange_channels.specs.Wirings.{IntakeState, HasEachEnd}
use Rattle.exchange_channels.specs.inner.Keeps.{keeper_with_receiver}
use Rattle.exchange_channels.proofs.closing.take_intakes_back.Given as goal

abbrev pub invariant-loop-taken : goal.invariant-loop-taken
invariant-loop-taken l = record {
  back : (k : ℕ) (d : PortState) (e : IntakeState) → k < length l.yielded → get_or l.cells k d ≡ keeper_with_receiver (get_or l.initial.cells k d) (get_or l.yielded k e).got;
  rest : (k : ℕ) (d : PortState) → length l.yielded ≤ k → get_or l.cells k d ≡ get_or l.initial.cells k d;
  ends : All (λ (taken : IntakeState). HasEachEnd taken.senders taken.got) l.yielded;
}
