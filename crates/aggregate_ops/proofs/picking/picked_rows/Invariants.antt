-- what the rows before those that are left emit
use Rattle.std.proofs.Common.{◌≡◌, [], ◌++◌, ◌+◌, ◌<◌, ◌^◌, map, length}
use Rattle.std.specs.List.{list_all}
use Rattle.myrial_ast.specs.Combinations.{emitted}
use Rattle.myrial_ast.specs.CandidateFaults.{all_fit}
use Rattle.myrial_ast.specs.ScalarTrees.{scalar_tree_of}
use Rattle.aggregate_ops.proofs.picking.picked_rows.Given as goal

abbrev pub invariant-loop-row : goal.invariant-loop-row
invariant-loop-row l = record {
  can : (goal.iterator-loop-row).can_next l.row-iterator;
  finite : (goal.iterator-loop-row).is_finite l.row-iterator;
  empty : l.picked ≡ [];
  rows : l.made ++ map (emitted (map scalar_tree_of l.picks)) l.row-iterator ≡ map (emitted (map scalar_tree_of l.picks)) l.rows;
  fits : list_all (all_fit (map scalar_tree_of l.picks)) l.rows ≡ list_all (all_fit (map scalar_tree_of l.picks)) l.row-iterator;
  few : length l.made + length l.row-iterator < 2 ^ 32;
}
