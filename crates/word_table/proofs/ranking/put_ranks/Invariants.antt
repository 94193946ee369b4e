-- the places so far have their ranks
use Rattle.std.proofs.Common.{take}
use Rattle.word_table.specs.inner.Gathered.{HasRanks}
use Rattle.word_table.proofs.ranking.put_ranks.Given as goal

abbrev pub invariant-loop-place : goal.invariant-loop-place
invariant-loop-place l = HasRanks (take l.place-index l.places) l.ranks l.initial.words.items l.words.items
