-- the parts so far
use Rattle.std.proofs.Common.{[], take}
use Rattle.word_table.specs.Words.{strings_in}
use Rattle.word_table.specs.inner.Gathered.{AddsStrings, AreGathered}
use Rattle.word_table.specs.inner.Unlike.{parts_in}
use Rattle.word_table.proofs.occurrences.Gathered.of_parts.Given as goal

abbrev pub invariant-loop-place : goal.invariant-loop-place
invariant-loop-place l = record {
  strings : AddsStrings [] l.strings.found.items (strings_in (take l.place (parts_in l.parts)));
  gathered : AreGathered l.widths (take l.place (parts_in l.parts)) l.columns.items l.strings.found.items;
}
