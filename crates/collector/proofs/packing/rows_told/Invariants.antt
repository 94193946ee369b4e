-- the rows so far
use Rattle.std.proofs.Common.{◌≡◌, map, take}
use Rattle.collector.specs.inner.Packing.{row_told}
use Rattle.collector.specs.inner.Sorted.{rows_at}
use Rattle.collector.proofs.packing.rows_told.Given as goal

abbrev pub invariant-loop-number : goal.invariant-loop-number
invariant-loop-number g l =
    rows_at l.rows.items ≡ map (row_told l.part l.digits) (map g.N.Number.value (take l.number-index l.numbers))
