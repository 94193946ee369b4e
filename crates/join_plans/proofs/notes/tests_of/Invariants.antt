-- the keeps of the atoms so far, and those that are left
use Rattle.std.proofs.Common.{◌≡◌, ◌+◌, ◌*◌, ◌≤◌, length, filter, map, drop}
use Rattle.myrial_ast.specs.KeptRows.{reads_within}
use Rattle.algebra.specs.Trees.{atom_tree_of}
use Rattle.algebra.specs.Shapes.{keeps_from}
use Rattle.join_plans.specs.inner.Spans.{span_of}
use Rattle.join_plans.proofs.notes.tests_of.Given as goal

abbrev pub invariant-loop-j : goal.invariant-loop-j
invariant-loop-j l = record {
  near : l.start ≤ l.j * 4294967295;
  few : l.count ≤ l.j * 4294967295;
  so_far : l.count + length
      (filter (reads_within (span_of l.span)) (keeps_from l.start (drop l.j (map atom_tree_of l.shape.atoms))))
      ≡ length (filter (reads_within (span_of l.span)) (keeps_from 0 (map atom_tree_of l.shape.atoms)));
}
