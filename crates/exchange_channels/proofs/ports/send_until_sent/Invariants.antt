-- the pass is as it was, and the message that is next is the one that was given
use Rattle.std.proofs.Common.{◌≡◌}
use Rattle.crossbeam_channel.specs.Claims.{view as knows, IsSeatAt}
use Rattle.crossbeam_channel.specs.Ends.{sends_on}
use Rattle.exchange_channels.proofs.ports.send_until_sent.Given as goal

abbrev pub invariant-loop : goal.invariant-loop
invariant-loop g l = record {
  seat : IsSeatAt (sends_on l.end) l.pass;
  same_pass : knows l.pass ≡ knows l.initial.pass;
  same_message : l.next ≡ l.fn.message;
}
