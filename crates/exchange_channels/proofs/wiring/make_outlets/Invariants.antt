-- each cell has made the senders so far, whose outlets these are
use Rattle.std.proofs.Common.{◌≡◌, map, All}
use Rattle.std.specs.List.{range_with_len}
use Rattle.exchange_channels.specs.Wirings.{new_outlet}
use Rattle.exchange_channels.specs.inner.Outlets.{places_of, wiring_of}
use Rattle.exchange_channels.specs.inner.Keeps.{IsKept}
use Rattle.exchange_channels.proofs.wiring.make_outlets.Given as goal

abbrev pub invariant-loop-number : goal.invariant-loop-number
invariant-loop-number l = record {
  kept : All (IsKept l.capacity l.number) l.cells;
  places : places_of l.cells ≡ places_of l.initial.cells;
  outlets : l.outlets ≡ map (new_outlet (wiring_of l.initial.cells l.senders l.capacity)) (range_with_len 0 l.number);
}
