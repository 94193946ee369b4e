use Rattle.std.proofs.Common.{◌≡◌, ◌++◌, map}
use Rattle.packed_rows.specs.Unpacked.{unpacked_row}
use Rattle.packed_rows.proofs.packing.words_of_rows.Given as goal

abbrev pub invariant-loop-row : goal.invariant-loop-row
invariant-loop-row l =
    (goal.iterator-loop-row).can_next l.row-iterator × (goal.iterator-loop-row).is_finite l.row-iterator
    × (map (unpacked_row l.columns) l.words.items ++ l.row-iterator ≡ l.rows)
