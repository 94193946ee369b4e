use Rattle.std.proofs.Common.{◌-◌, ◌<◌, is_lt, length, map}
use Rattle.std.specs.List.Sorted.{IsSortedWithin}
use Rattle.rel_base.specs.Values.{row_order}
use Rattle.aggregate_ops.specs.Columns.{key_at}
use Rattle.aggregate_ops.specs.inner.Reading.{rows_of}
use Rattle.aggregate_ops.proofs.key_runs.are_in_order.Given as goal

abbrev pub invariant-loop-count : goal.invariant-loop-count
invariant-loop-count l = (0 < l.count) × IsSortedWithin (λ r s. is_lt (row_order r s)) (map (key_at l.places) (rows_of l.rows)) 0 l.count

abbrev pub decreases-loop-count : goal.decreases-loop-count
decreases-loop-count l = length (rows_of l.initial.rows) - l.count
