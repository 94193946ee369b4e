-- the values of the picks so far stand behind those that were there
use Rattle.std.proofs.Common.{◌≡◌, ◌++◌, map, take, true}
use Rattle.myrial_ast.specs.Combinations.{emitted}
use Rattle.myrial_ast.specs.CandidateFaults.{all_fit}
use Rattle.myrial_ast.specs.ScalarTrees.{scalar_tree_of}
use Rattle.aggregate_ops.proofs.picking.put_picked.Given as goal

abbrev pub invariant-loop-pick : goal.invariant-loop-pick
invariant-loop-pick l =
    (l.into ≡ l.initial.into ++ emitted (map scalar_tree_of (take l.pick-index l.picks)) l.row)
    × (all_fit (map scalar_tree_of (take l.pick-index l.picks)) l.row ≡ true)
