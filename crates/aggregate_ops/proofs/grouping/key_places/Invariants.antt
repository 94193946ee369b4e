use Rattle.std.proofs.Common.{◌≡◌, ◌≤◌, ◌++◌, length, map, drop}
use Rattle.algebra.specs.Trees.{kind_of_emit}
use Rattle.bag_laws.proofs.PartialLemmas.{places}
use Rattle.aggregate_ops.specs.Columns.{key_places}
use Rattle.aggregate_ops.proofs.grouping.key_places.Given as goal

abbrev pub invariant-loop-place : goal.invariant-loop-place
invariant-loop-place l =
    (l.places ++ places l.place (map kind_of_emit (drop l.place l.kinds)) ≡ key_places (map kind_of_emit l.kinds))
    × (length l.places ≤ l.place)
