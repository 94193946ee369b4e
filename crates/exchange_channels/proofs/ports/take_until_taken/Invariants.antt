-- the pass is as it was
use Rattle.std.proofs.Common.{◌≡◌}
use Rattle.crossbeam_channel.specs.Claims.{view as knows, IsSeatAt}
use Rattle.crossbeam_channel.specs.Ends.{receives_on}
use Rattle.exchange_channels.proofs.ports.take_until_taken.Given as goal

abbrev pub invariant-loop : goal.invariant-loop
invariant-loop g l = record {
  seat : IsSeatAt (receives_on l.end) l.pass;
  same_pass : knows l.pass ≡ knows l.initial.pass;
}
