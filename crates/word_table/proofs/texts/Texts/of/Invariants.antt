-- the strings so far are copied
use Rattle.std.proofs.Common.{take, string_bytes}
use Rattle.word_table.proofs.TextLemmas.{AreCopies}
use Rattle.word_table.proofs.texts.Texts.of.Given as goal

abbrev pub invariant-loop-string : goal.invariant-loop-string
invariant-loop-string l =
    AreCopies (take l.string-index l.strings) (string_bytes l.letters) l.starts.items l.keys.items
