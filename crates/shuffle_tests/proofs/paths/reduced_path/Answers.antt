use Rattle.algebra.specs.ShapeTrees.{shape_tree_of}
use Rattle.shuffle_tests.proofs.PathLemmas.{path-ready}
use Rattle.shuffle_tests.proofs.paths.reduced_path.Goals as goal

pub reduce-requires-clause-rows : goal.reduce-requires-clause-rows
reduce-requires-clause-rows c =
    path-ready (shape_tree_of c.in_ok-shape.shape) c.in_ok-parts.parts c.in_ok-shape.ensures c.in_ok-parts.ensures
