use Rattle.std.proofs.Common.{◌≡◌, ◌++◌, take}
use Rattle.word_table.specs.Words.{strings_of_row}
use Rattle.word_table.proofs.gathering.add_strings_of_row.Given as goal

abbrev pub invariant-loop-value : goal.invariant-loop-value
invariant-loop-value l = l.strings.items ≡ l.initial.strings.items ++ strings_of_row (take l.value-index l.row)
