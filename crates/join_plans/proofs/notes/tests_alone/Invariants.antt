-- how many so far
use Rattle.std.proofs.Common.{◌≡◌, ◌≤◌, length, filter, map, take}
use Rattle.myrial_ast.specs.KeptRows.{reads_within}
use Rattle.myrial_ast.specs.ScalarTrees.{scalar_tree_of}
use Rattle.algebra.specs.Shapes.{shifted}
use Rattle.join_plans.specs.inner.Spans.{span_of}
use Rattle.join_plans.proofs.notes.tests_alone.Given as goal

abbrev pub invariant-loop-test : goal.invariant-loop-test
invariant-loop-test l = record {
  few : l.count ≤ l.test-index;
  so_far : l.count ≡ length
      (filter (reads_within (span_of l.span)) (map (λ t. shifted l.start (scalar_tree_of t)) (take l.test-index l.tests)));
}
