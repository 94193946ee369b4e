-- the words of the rows so far
use Rattle.std.proofs.Common.{◌≡◌, take}
use Rattle.word_table.specs.WordTables.{column_of, cut_into}
use Rattle.word_table.proofs.columns.column_words.Given as goal

abbrev pub invariant-loop-place : goal.invariant-loop-place
invariant-loop-place l = l.made.items ≡ column_of (take l.place (cut_into l.count l.columns l.words)) l.column
