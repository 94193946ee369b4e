-- the occurrences so far are ranked
use Rattle.word_table.specs.inner.Gathered.{IsRanked}
use Rattle.word_table.proofs.ranking.ranked.Given as goal

abbrev pub invariant-loop-occurrence : goal.invariant-loop-occurrence
invariant-loop-occurrence l = IsRanked l.found l.occurrence-index l.strings.items l.initial.words.items l.words.items
