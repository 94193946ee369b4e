-- the columns of the atoms so far
use Rattle.std.proofs.Common.{◌≡◌, ◌≤◌, ◌*◌, take}
use Rattle.std.specs.Prelude.{sum}
use Rattle.join_plans.proofs.spans.span_of_atom.Given as goal

abbrev pub invariant-loop-width : goal.invariant-loop-width
invariant-loop-width l = record {
  few : l.from ≤ l.width-index * 4294967295;
  so_far : l.from ≡ sum (take l.width-index l.width-items);
}
