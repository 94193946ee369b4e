-- the lines so far
use Rattle.std.proofs.Common.{◌≡◌, ◌++◌, map, take}
use Rattle.std.specs.List.{enumerate_from, zip}
use Rattle.algebra.specs.ShapeTrees.{shape_tree_of}
use Rattle.join_plans.specs.inner.Lines.{item_line}
use Rattle.join_plans.proofs.notes.item_notes.Given as goal

abbrev pub invariant-loop-j : goal.invariant-loop-j
invariant-loop-j l = l.into ≡ l.initial.into
    ++ map (item_line (shape_tree_of l.shape)) (enumerate_from 0 (take l.j (zip l.rows l.kept)))
