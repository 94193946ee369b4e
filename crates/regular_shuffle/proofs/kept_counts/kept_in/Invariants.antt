use Rattle.std.proofs.Common.{◌≡◌, ◌*◌, ◌≤◌, length, take}
use Rattle.algebra.specs.Shapes.{kept_of}
use Rattle.algebra.specs.ShapeTrees.{shape_tree_of}
use Rattle.placement.specs.Layouts.{together}
use Rattle.regular_shuffle.proofs.kept_counts.kept_in.Given as goal

abbrev pub invariant-loop-rows : goal.invariant-loop-rows
invariant-loop-rows l = record {
  counted : l.count ≡ length (kept_of (shape_tree_of l.kept.shape.now) l.atom (together (take l.rows-index l.spread)));
  few : l.count ≤ l.rows-index * 4294967295;
}
