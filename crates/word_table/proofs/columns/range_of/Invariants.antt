-- the words so far stand between the least and the greatest, which are words of the column
use Rattle.std.proofs.Common.{◌≡◌, ◌-◌, ◌^◌, ◌<◌, ◌≤◌, All, take}
use Rattle.std.specs.Prelude.{Contains}
use Rattle.word_table.proofs.columns.range_of.Given as goal

abbrev pub invariant-loop-word : goal.invariant-loop-word
invariant-loop-word l = record {
  within : All (λ word. (l.least ≤ word) × (word ≤ l.greatest)) (take l.word-index l.words);
  none : l.word-index ≡ 0 → (l.least ≡ 2 ^ 64 - 1) × (l.greatest ≡ 0);
  least : 0 < l.word-index → Contains l.words l.least;
  greatest : 0 < l.word-index → Contains l.words l.greatest;
}
