use Rattle.std.proofs.Common.{◌≡◌, map, take}
use Rattle.packed_rows.specs.Unpacked.{unpacked_row}
use Rattle.packed_rows.proofs.distinct_rows.rows_of.Given as goal

abbrev pub invariant-loop-word : goal.invariant-loop-word
invariant-loop-word l = l.made ≡ map (unpacked_row l.columns) (take l.word-index l.words)
