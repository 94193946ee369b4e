use Rattle.std.proofs.Common.{◌≡◌, ◌++◌, map, All}
use Rattle.aggregate_ops.proofs.keys.keyed_rows.Given as goal

abbrev pub invariant-loop-row : goal.invariant-loop-row
invariant-loop-row l =
    (goal.iterator-loop-row).can_next l.row-iterator × (goal.iterator-loop-row).is_finite l.row-iterator
    × (map (λ e. e.row.now) l.keyed.items ++ l.row-iterator ≡ l.rows)
    × All (λ e. e.places.now ≡ l.places) l.keyed.items
