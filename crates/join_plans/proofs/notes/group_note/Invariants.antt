-- the keys so far
use Rattle.std.proofs.Common.{◌≡◌, ◌≤◌, length, filter, map, take}
use Rattle.std.specs.Prelude.{is_none}
use Rattle.algebra.specs.Trees.{kind_of_emit}
use Rattle.join_plans.proofs.notes.group_note.Given as goal

abbrev pub invariant-loop-kind : goal.invariant-loop-kind
invariant-loop-kind l = record {
  few : l.keys ≤ l.kind-index;
  so_far : l.keys ≡ length (filter (λ k. is_none k) (map kind_of_emit (take l.kind-index l.kinds)));
}
