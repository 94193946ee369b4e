-- those of the tests so far
use Rattle.std.proofs.Common.{◌≡◌, map, take}
use Rattle.myrial_ast.specs.ScalarTrees.{scalar_tree_of}
use Rattle.algebra.specs.Trees.{atom_tree_of}
use Rattle.plan_rewrite.specs.inner.Pushing.{left_tests}
use Rattle.plan_rewrite.proofs.pushing.left_tests.Given as goal

abbrev pub invariant-loop-test : goal.invariant-loop-test
invariant-loop-test l = map scalar_tree_of l.left ≡ left_tests (map atom_tree_of l.atoms) l.variables (map scalar_tree_of (take l.test-index l.test-items))
