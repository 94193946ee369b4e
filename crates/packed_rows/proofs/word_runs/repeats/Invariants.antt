use Rattle.std.proofs.Common.{◌≡◌, ℕ, ◌-◌, ◌<◌, ◌≤◌, [], length, map, get_or}
use Rattle.packed_rows.specs.Unpacked.{unpacked_row}
use Rattle.packed_rows.proofs.word_runs.repeats.Given as goal

abbrev pub invariant-loop-count : goal.invariant-loop-count
invariant-loop-count l =
    (0 < l.count) × (l.count ≤ length l.words)
    × ((k : ℕ) → k < l.count → get_or (map (unpacked_row l.columns) l.words) k [] ≡ get_or (map (unpacked_row l.columns) l.words) 0 [])

abbrev pub decreases-loop-count : goal.decreases-loop-count
decreases-loop-count l = length l.initial.words - l.count
