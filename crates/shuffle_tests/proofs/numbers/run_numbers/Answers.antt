use Rattle.algebra.specs.ShapeTrees.{shape_tree_of}
use Rattle.shuffle_tests.proofs.NumberLemmas.{numbers-ready}
use Rattle.shuffle_tests.proofs.numbers.run_numbers.Goals as goal

pub invariant_of-join : goal.invariant_of-join
invariant_of-join g c =
    record {
      ready = numbers-ready (shape_tree_of c.in_ok-shape.shape) c.args.settings.now.workers c.in_ok-parts.parts c.in_ok-shape.ensures
          c.in_ok-parts.ensures.two c.in_ok-parts.ensures.all;
    }
