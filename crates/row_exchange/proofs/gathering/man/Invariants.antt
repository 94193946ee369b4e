use Rattle.std.proofs.Common.{◌≡◌, ◌≤◌, ◌+◌, ◌*◌, length, reverse, vec_len}
use Rattle.std.specs.Vec.{vec_capacity}
use Rattle.row_exchange.specs.inner.Gatherings.{AreMannedBut, stations_of}
use Rattle.row_exchange.proofs.gathering.man.Given as goal

abbrev pub invariant-loop-outlet : goal.invariant-loop-outlet
invariant-loop-outlet g l = record {
  manned : AreMannedBut l.route l.parts l.size l.fn.outlets l.outlets l.fn.intakes l.intakes l.fn.taps.items l.taps.items (stations_of (reverse l.senders.items) (reverse l.receivers.items));
  paired : length l.receivers.items ≡ length l.senders.items;
  count : length l.intakes ≡ length l.outlets;
  taps : vec_len l.taps ≡ 2 * length l.outlets;
  senders_room : vec_len l.senders + length l.outlets ≤ vec_capacity l.senders;
  receivers_room : vec_len l.receivers + length l.outlets ≤ vec_capacity l.receivers;
  same : vec_capacity l.taps ≡ vec_capacity l.fn.taps;
}

abbrev pub decreases-loop-outlet : goal.decreases-loop-outlet
decreases-loop-outlet g l = length l.outlets
