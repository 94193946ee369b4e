-- the sink has taken the first `done` bytes, and no count fell
use Rattle.std.proofs.Common.{◌≤◌, ◌-◌, length, take}
use Rattle.std.specs.Io.KnownBytes.{Appends}
use Rattle.rel_io.proofs.offers.offer.Given as goal

abbrev pub invariant-loop-done : goal.invariant-loop-done
invariant-loop-done g l = record {
  within : l.done ≤ length l.piece;
  taken : Appends (g.S.Sink.taken l.fn.sink) (g.S.Sink.taken l.sink) (take l.done l.piece);
  faults : g.S.Sink.faults l.fn.sink ≤ g.S.Sink.faults l.sink;
  wants : g.S.Sink.wants l.fn.sink ≤ g.S.Sink.wants l.sink;
}

abbrev pub decreases-loop-done : goal.decreases-loop-done
decreases-loop-done g l = length l.piece - l.done
