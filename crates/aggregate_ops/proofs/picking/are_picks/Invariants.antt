use Rattle.std.proofs.Common.{◌≡◌, map, take, true}
use Rattle.myrial_ast.specs.ScalarTrees.{scalar_tree_of}
use Rattle.aggregate_ops.specs.Picks.{are_picks}
use Rattle.aggregate_ops.proofs.picking.are_picks.Given as goal

abbrev pub invariant-loop-scalar : goal.invariant-loop-scalar
invariant-loop-scalar l = are_picks (map scalar_tree_of (take l.scalar-index l.scalars)) ≡ true
