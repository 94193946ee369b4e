-- the keeps so far
use Rattle.std.proofs.Common.{◌≡◌, ◌++◌, map, take}
use Rattle.myrial_ast.specs.ScalarTrees.{scalar_tree_of}
use Rattle.algebra.specs.Shapes.{shifted}
use Rattle.plan_rewrite.proofs.pushing.push_shifted.Given as goal

abbrev pub invariant-loop-keep : goal.invariant-loop-keep
invariant-loop-keep l =
    map scalar_tree_of l.into ≡ map scalar_tree_of l.initial.into ++ map (shifted l.column) (map scalar_tree_of (take l.keep-index l.keeps))
