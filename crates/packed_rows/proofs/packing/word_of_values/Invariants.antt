-- the values so far are those of the word
use Rattle.std.proofs.Common.{◌≡◌, take}
use Rattle.packed_rows.specs.Unpacked.{unpacked_row}
use Rattle.packed_rows.proofs.packing.word_of_values.Given as goal

abbrev pub invariant-loop-place : goal.invariant-loop-place
invariant-loop-place l = unpacked_row (take l.place l.columns) l.word ≡ take l.place l.values
