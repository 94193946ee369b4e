-- so many may wait as there were rounds
use Rattle.std.proofs.Common.{◌≡◌}
use Rattle.crossbeam_channel.specs.Claims.{view as knows, IsSeatAt}
use Rattle.crossbeam_channel.specs.Ends.{sends_on}
use Rattle.exchange_channels.specs.inner.CellRule.{first_view}
use Rattle.exchange_channels.proofs.ports.widen.Given as goal

abbrev pub invariant-loop-wider : goal.invariant-loop-wider
invariant-loop-wider l = record {
  seat : IsSeatAt (sends_on l.end) l.pass;
  wide : knows l.pass ≡ record first_view { capacity = l._wider };
}
