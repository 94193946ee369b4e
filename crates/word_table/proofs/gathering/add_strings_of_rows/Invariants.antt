use Rattle.std.proofs.Common.{◌≡◌, ◌++◌}
use Rattle.word_table.specs.Words.{strings_of_rows}
use Rattle.word_table.proofs.gathering.add_strings_of_rows.Given as goal

abbrev pub invariant-loop-row : goal.invariant-loop-row
invariant-loop-row l =
    (goal.iterator-loop-row).can_next l.row-iterator × (goal.iterator-loop-row).is_finite l.row-iterator
    × (l.strings.items ++ strings_of_rows l.row-iterator ≡ l.initial.strings.items ++ strings_of_rows l.rows)
