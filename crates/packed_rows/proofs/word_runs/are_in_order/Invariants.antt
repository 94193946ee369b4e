use Rattle.std.proofs.Common.{◌-◌, ◌<◌, is_lt, length, map}
use Rattle.std.specs.List.Sorted.{IsSortedWithin}
use Rattle.rel_base.specs.Values.{row_order}
use Rattle.packed_rows.specs.Unpacked.{unpacked_row}
use Rattle.packed_rows.proofs.word_runs.are_in_order.Given as goal

abbrev pub invariant-loop-count : goal.invariant-loop-count
invariant-loop-count l = (0 < l.count) × IsSortedWithin (λ r s. is_lt (row_order r s)) (map (unpacked_row l.columns) l.words) 0 l.count

abbrev pub decreases-loop-count : goal.decreases-loop-count
decreases-loop-count l = length l.initial.words - l.count
