-- the rows so far are gathered, and those that are left follow
use Rattle.std.proofs.Common.{◌≡◌, ◌++◌, List, length}
use Rattle.rel_base.specs.declared.values.Value.{Value}
use Rattle.word_table.specs.Words.{strings_of_rows}
use Rattle.word_table.specs.inner.Gathered.{AddsStrings, AreGatheredColumns}
use Rattle.word_table.proofs.occurrences.GatheredPart.of_rows.Given as goal

abbrev pub invariant-loop-row : goal.invariant-loop-row
invariant-loop-row l =
    (goal.iterator-loop-row).can_next l.row-iterator × (goal.iterator-loop-row).is_finite l.row-iterator
    × (length l.columns.items ≡ l.width)
    × ((so_far : List (List Value)) × (so_far ++ l.row-iterator ≡ l.rows)
    × AddsStrings l.initial.strings.found.items l.strings.found.items (strings_of_rows so_far)
    × AreGatheredColumns so_far l.columns.items l.strings.found.items)
