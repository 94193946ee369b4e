use Rattle.std.proofs.Common.{◌≡◌, ◌++◌, map, All}
use Rattle.rel_base.specs.Beginnings.{BeginsWith}
use Rattle.aggregate_ops.proofs.ordering.led_rows.Given as goal

abbrev pub invariant-loop-row : goal.invariant-loop-row
invariant-loop-row l =
    (goal.iterator-loop-row).can_next l.row-iterator × (goal.iterator-loop-row).is_finite l.row-iterator
    × (map (λ e. e.2.now) l.led.items ++ l.row-iterator ≡ l.rows)
    × All (λ e. BeginsWith e.2.now e.0 e.1) l.led.items
