use Rattle.std.proofs.Common.{◌≡◌, ◌++◌, map}
use Rattle.myrial_ast.specs.Combinations.{emitted}
use Rattle.myrial_ast.specs.ScalarTrees.{scalar_tree_of}
use Rattle.packed_rows.specs.Unpacked.{unpacked_row}
use Rattle.packed_rows.proofs.packing.words_of_picks.Given as goal

abbrev pub invariant-loop-row : goal.invariant-loop-row
invariant-loop-row l =
    (goal.iterator-loop-row).can_next l.row-iterator × (goal.iterator-loop-row).is_finite l.row-iterator
    × (map (unpacked_row l.columns) l.words.items ++ map (emitted (map scalar_tree_of l.picks)) l.row-iterator ≡ map (emitted (map scalar_tree_of l.picks)) l.rows)
