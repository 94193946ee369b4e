-- what the parts so far are like
use Rattle.std.proofs.Common.{take}
use Rattle.word_table.specs.inner.Unlike.{parts_in, AreUnlike}
use Rattle.word_table.proofs.unlike.UnlikeParts.of.Given as goal

abbrev pub invariant-loop-place : goal.invariant-loop-place
invariant-loop-place l = AreUnlike (take l.place l.parts) (take l.place l.widths) (parts_in l.unlike.parts.items) l.unlike.widths.items l.unlike.places.items
