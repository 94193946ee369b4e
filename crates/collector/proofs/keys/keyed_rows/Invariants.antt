use Rattle.std.proofs.Common.{◌≡◌, ◌++◌, map, All}
use Rattle.rel_base.specs.Beginnings.{BeginsWith}
use Rattle.collector.proofs.keys.keyed_rows.Given as goal

abbrev pub invariant-loop-row : goal.invariant-loop-row
invariant-loop-row l =
    (goal.iterator-loop-row).can_next l.row-iterator × (goal.iterator-loop-row).is_finite l.row-iterator
    × (map (λ e. e.2.now) l.keyed.items ++ l.row-iterator ≡ l.part)
    × All (λ e. BeginsWith e.2.now e.0 e.1) l.keyed.items
