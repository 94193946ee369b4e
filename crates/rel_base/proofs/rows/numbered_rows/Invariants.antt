use Rattle.std.proofs.Common.{◌≡◌, ◌∷◌, [], ◌++◌, map, All}
use Rattle.rel_base.specs.Picks.{items_at}
use Rattle.rel_base.specs.Beginnings.{BeginsWith}
use Rattle.rel_base.proofs.rows.numbered_rows.Given as goal

abbrev pub invariant-loop-row : goal.invariant-loop-row
invariant-loop-row l =
    (goal.iterator-loop-row).can_next l.row-iterator × (goal.iterator-loop-row).is_finite l.row-iterator
    × (map (λ e. e.2.now) l.numbered.items ++ l.row-iterator ≡ l.rows)
    × All (λ e. items_at l.rows (e.3 ∷ []) ≡ e.2.now ∷ []) l.numbered.items
    × All (λ e. BeginsWith e.2.now e.0 e.1) l.numbered.items
