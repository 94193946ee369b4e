-- there are digits from there on
use Rattle.std.proofs.Common.{◌<◌}
use Rattle.packed_rows.proofs.packing.first_shift.Given as goal

abbrev pub invariant-loop-column : goal.invariant-loop-column
invariant-loop-column l = l.shift < 64
