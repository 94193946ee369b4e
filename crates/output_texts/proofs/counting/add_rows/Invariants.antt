-- references to the rows so far, and then those that are left
use Rattle.std.proofs.Common.{◌≡◌, ◌++◌, map}
use Rattle.output_texts.proofs.counting.add_rows.Given as goal

abbrev pub invariant-loop-row : goal.invariant-loop-row
invariant-loop-row l =
    (goal.iterator-loop-row).can_next l.row-iterator × (goal.iterator-loop-row).is_finite l.row-iterator
    × (map (λ row. row.now) l.all.items ++ l.row-iterator ≡ map (λ row. row.now) l.fn.all.items ++ l.fn.rows)
