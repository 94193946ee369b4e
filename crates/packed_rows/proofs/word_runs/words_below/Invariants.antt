use Rattle.std.proofs.Common.{◌≡◌, ℕ, ◌-◌, ◌<◌, ◌≤◌, true, [], length, map, get_or, is_lt}
use Rattle.rel_base.specs.Values.{row_order}
use Rattle.packed_rows.specs.Unpacked.{unpacked_row}
use Rattle.packed_rows.proofs.word_runs.words_below.Given as goal

abbrev pub invariant-loop-count : goal.invariant-loop-count
invariant-loop-count l =
    (l.count ≤ length l.words)
    × ((k : ℕ) → k < l.count → is_lt (row_order (get_or (map (unpacked_row l.columns) l.words) k []) (unpacked_row l.columns l.word)) ≡ true)

abbrev pub decreases-loop-count : goal.decreases-loop-count
decreases-loop-count l = length l.initial.words - l.count
