use Rattle.algebra.specs.CheckedTrees.{checked_tree_of}
use Rattle.myrial_ast.specs.Trees.{trees_of}
use Rattle.engine_tests.proofs.scripts.Typed.new.Goals as goal

pub invariant_of-result : goal.invariant_of-result
invariant_of-result c = record {
  of = c.steps_are_of_the_files.ensures c.in_ok-files.files (trees_of c.in_ok-script.script) (checked_tree_of c.in-Ok.checked) c.in_ok-files.ensures.formed
      c.in-Ok.ensures.checked;
  typed = c.in_ok-files.ensures.typed;
}
