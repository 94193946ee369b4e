use Rattle.std.proofs.Common.{◌≡◌, ◌≤◌, ◌+◌, ◌*◌, All, length, reverse, vec_len}
use Rattle.std.specs.Vec.{vec_capacity}
use Rattle.row_exchange.specs.inner.Gatherings.{HasEnds, IsTakenApartBut, stations_of, the_stations}
use Rattle.row_exchange.proofs.gathering.take_apart.Given as goal

abbrev pub invariant-loop-outgoing : goal.invariant-loop-outgoing
invariant-loop-outgoing g l = record {
  apart : IsTakenApartBut (the_stations l.fn.halves) (stations_of (reverse l.senders.items) (reverse l.receivers.items))
      l.fn.taps.items l.taps.items l.fn.outs.items l.outs.items l.fn.ins.items l.ins.items l.fn.given l.given;
  paired : length l.receivers.items ≡ length l.senders.items;
  ends : All HasEnds (stations_of (reverse l.senders.items) (reverse l.receivers.items));
  taps : vec_len l.taps + 2 * length l.senders.items ≤ vec_capacity l.taps;
  outs : length l.senders.items ≤ l.outs.spare;
  ins : length l.senders.items ≤ l.ins.spare;
  same : vec_capacity l.taps ≡ vec_capacity l.fn.taps;
}

abbrev pub decreases-loop-outgoing : goal.decreases-loop-outgoing
decreases-loop-outgoing g l = length l.senders.items
