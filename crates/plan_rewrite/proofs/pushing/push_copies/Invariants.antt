-- the copies so far
use Rattle.std.proofs.Common.{◌≡◌, ◌++◌, map, take}
use Rattle.myrial_ast.specs.ScalarTrees.{scalar_tree_of}
use Rattle.plan_rewrite.proofs.pushing.push_copies.Given as goal

abbrev pub invariant-loop-scalar : goal.invariant-loop-scalar
invariant-loop-scalar l = map scalar_tree_of l.into ≡ map scalar_tree_of l.initial.into ++ map scalar_tree_of (take l.scalar-index l.scalars)
