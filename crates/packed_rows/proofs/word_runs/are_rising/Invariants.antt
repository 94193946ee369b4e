use Rattle.std.proofs.Common.{◌≡◌, ◌+◌, ◌-◌, ◌<◌, true, [], ℕ, is_lt, length, map, get_or}
use Rattle.rel_base.specs.Values.{row_order}
use Rattle.packed_rows.specs.Unpacked.{unpacked_row}
use Rattle.packed_rows.proofs.word_runs.are_rising.Given as goal

abbrev pub invariant-loop-count : goal.invariant-loop-count
invariant-loop-count l =
    (0 < l.count)
    × ((k : ℕ) → k + 1 < l.count → is_lt (row_order (get_or (map (unpacked_row l.columns) l.words) k [])
    (get_or (map (unpacked_row l.columns) l.words) (k + 1) [])) ≡ true)

abbrev pub decreases-loop-count : goal.decreases-loop-count
decreases-loop-count l = length l.initial.words - l.count
