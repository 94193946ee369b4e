-- those of the tests so far
use Rattle.std.proofs.Common.{◌≡◌, ◌++◌, filter, map, take}
use Rattle.myrial_ast.specs.KeptRows.{reads_within}
use Rattle.myrial_ast.specs.ScalarTrees.{scalar_tree_of}
use Rattle.plan_rewrite.specs.inner.Pushing.{lowered}
use Rattle.plan_rewrite.proofs.pushing.push_alone.Given as goal

abbrev pub invariant-loop-test : goal.invariant-loop-test
invariant-loop-test l =
    map scalar_tree_of l.into ≡ map scalar_tree_of l.initial.into
    ++ map (lowered l.span.from) (filter (reads_within l.span) (map scalar_tree_of (take l.test-index l.tests)))
