-- the values so far are those of the word
use Rattle.std.proofs.Common.{◌≡◌, map, take}
use Rattle.myrial_ast.specs.Combinations.{emitted}
use Rattle.myrial_ast.specs.ScalarTrees.{scalar_tree_of}
use Rattle.packed_rows.specs.Unpacked.{unpacked_row}
use Rattle.packed_rows.proofs.packing.word_of_picks.Given as goal

abbrev pub invariant-loop-place : goal.invariant-loop-place
invariant-loop-place l = unpacked_row (take l.place l.columns) l.word ≡ emitted (map scalar_tree_of (take l.place l.picks)) l.values
