use Rattle.std.proofs.Common.{◌≡◌, take}
use Rattle.word_table.specs.Words.{strings_in}
use Rattle.word_table.proofs.gathering.strings_of_parts.Given as goal

abbrev pub invariant-loop-rows : goal.invariant-loop-rows
invariant-loop-rows l = l.strings.items ≡ strings_in (take l.rows-index l.rows-items)
