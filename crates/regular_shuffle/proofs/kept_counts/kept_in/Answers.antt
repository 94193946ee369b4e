use Rattle.algebra.specs.ShapeTrees.{shape_tree_of}
use Rattle.regular_shuffle.proofs.KeptCountLemmas.{known-at}
use Rattle.regular_shuffle.proofs.kept_counts.kept_in.Goals as goal

pub kept_of_worker-requires : goal.kept_of_worker-requires
kept_of_worker-requires c =
    known-at (shape_tree_of c.args.kept.now.shape.now) c.args.atom c.args.spread.now c.as_slice-rows-items.result.now c.loop-rows.rows-index c.rows-item.result
    c.as_slice-rows-items.ensures.value c.loop-rows-test.true c.rows-item.is c.requires
