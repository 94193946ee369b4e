use Rattle.std.proofs.Common.{◌≡◌, All, map, take}
use Rattle.collector.specs.inner.Merged.{IsAscending}
use Rattle.collector.specs.inner.Sorted.{rows_at, reference_order}
use Rattle.collector.proofs.ranges.RowRange.rows.Given as goal

abbrev pub invariant-loop-run : goal.invariant-loop-run
invariant-loop-run l =
    (map (λ list. rows_at list.items) l.lists.items ≡ take l.run-index l.run-items)
    × All (IsAscending reference_order) l.lists.items
