-- the columns so far have their words
use Rattle.std.proofs.Common.{◌≡◌, ◌^◌, ◌<◌, ℕ, List, All, length, get_or, map}
use Rattle.rel_base.specs.declared.values.Value.{Value}
use Rattle.word_table.specs.Words.{word_of}
use Rattle.word_table.specs.declared.numbering.Occurrence.{Occurrence}
use Rattle.word_table.specs.declared.occurrences.GatheredColumn.{GatheredColumn}
use Rattle.word_table.specs.inner.Gathered.{IsGathered, AreRanksOf}
use Rattle.word_table.proofs.occurrences.GatheredPart.table.Given as goal

abbrev pub invariant-loop-column : goal.invariant-loop-column
invariant-loop-column l = record {
  long : length l.columns.items ≡ length l.yielded;
  words : (values : List Value) (found : List Occurrence) (strings : List (List ℕ)) (k : ℕ) (d : List ℕ) → k < length l.yielded
      → ((g : GatheredColumn) → IsGathered values (get_or l.fn.self.columns.items k g).words.items (get_or l.fn.self.columns.items k g).places.items found)
      → AreRanksOf found l.ranks strings → get_or l.columns.items k d ≡ map (word_of strings) values;
  fit : All (All (λ word. word < 2 ^ 64)) l.columns.items;
}
