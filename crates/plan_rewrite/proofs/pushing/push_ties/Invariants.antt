-- the equalities with the columns so far
use Rattle.std.proofs.Common.{◌≡◌, ◌++◌, map, take}
use Rattle.myrial_ast.specs.ScalarTrees.{scalar_tree_of}
use Rattle.algebra.specs.Shapes.{tie_test}
use Rattle.plan_rewrite.specs.inner.Pushing.{lowered}
use Rattle.plan_rewrite.proofs.pushing.push_ties.Given as goal

abbrev pub invariant-loop-other : goal.invariant-loop-other
invariant-loop-other l =
    map scalar_tree_of l.into ≡ map scalar_tree_of l.initial.into
    ++ map (lowered l.span.from) (map tie_test (map (λ d. (l.first, d)) (take l.other-index l.others)))
