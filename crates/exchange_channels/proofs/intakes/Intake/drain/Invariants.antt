-- the tap was told the rows of all batches that were taken
use Rattle.std.proofs.Common.{◌≡◌, length}
use Rattle.rel_io.specs.Taps.{with_got}
use Rattle.exchange_channels.specs.Messages.{rows_of}
use Rattle.exchange_channels.proofs.intakes.Intake.drain.Given as goal

abbrev pub invariant-loop : goal.invariant-loop
invariant-loop g l = record {
  place : l.taking.port.place ≡ l.initial.taking.port.place;
  senders : length l.taking.ended ≡ length l.initial.taking.ended;
  tap : g.T.Tap.totals l.tap ≡ with_got (g.T.Tap.totals l.initial.tap) (rows_of l.taking.port.knows.got);
  tag : g.T.Tap.tag l.tap ≡ g.T.Tap.tag l.initial.tap;
}
