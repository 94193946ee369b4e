use Rattle.std.proofs.Common.{◌≡◌, ◌++◌, map}
use Rattle.aggregate_ops.proofs.keys.rows_with_words.Given as goal

abbrev pub invariant-loop-row : goal.invariant-loop-row
invariant-loop-row l =
    (goal.iterator-loop-row).can_next l.row-iterator × (goal.iterator-loop-row).is_finite l.row-iterator
    × (map (λ e. e.1.now) l.worded.items ++ l.row-iterator ≡ l.rows)
