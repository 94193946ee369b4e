use Rattle.std.proofs.Common.{◌≡◌, ◌+◌, ◌≤◌, length, All}
use Rattle.algebra.specs.Shapes.{kept_of}
use Rattle.algebra.specs.ShapeTrees.{shape_tree_of}
use Rattle.kept_rows.specs.KeptTests.{IsPartRow}
use Rattle.regular_shuffle.proofs.kept_counts.kept_of_worker.Given as goal

abbrev pub invariant-loop-row : goal.invariant-loop-row
invariant-loop-row l = record {
  can : (goal.iterator-loop-row).can_next l.row-iterator;
  finite : (goal.iterator-loop-row).is_finite l.row-iterator;
  counted : l.count + length (kept_of (shape_tree_of l.kept.shape.now) l.atom l.row-iterator) ≡ length (kept_of (shape_tree_of l.kept.shape.now) l.atom l.rows);
  known : All (IsPartRow (shape_tree_of l.kept.shape.now) l.atom) l.row-iterator;
  few : l.count + length l.row-iterator ≤ length l.rows;
}
