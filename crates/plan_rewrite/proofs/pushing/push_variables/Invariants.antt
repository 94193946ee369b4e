-- the equalities of the variables so far
use Rattle.std.proofs.Common.{◌≡◌, ◌++◌, map, take}
use Rattle.myrial_ast.specs.ScalarTrees.{scalar_tree_of}
use Rattle.algebra.specs.Shapes.{tie_test}
use Rattle.plan_rewrite.specs.inner.Pushing.{lowered, ties_within}
use Rattle.plan_rewrite.proofs.pushing.push_variables.Given as goal

abbrev pub invariant-loop-variable : goal.invariant-loop-variable
invariant-loop-variable l =
    map scalar_tree_of l.into ≡ map scalar_tree_of l.initial.into
    ++ map (lowered l.span.from) (map tie_test (ties_within l.span (take l.variable-index l.variables)))
