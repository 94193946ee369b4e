-- the columns so far have no values
use Rattle.std.proofs.Common.{◌≡◌, ◌<◌, ℕ, [], length, get_or}
use Rattle.word_table.specs.declared.occurrences.GatheredColumn.{GatheredColumn}
use Rattle.word_table.proofs.occurrences.no_values.Given as goal

abbrev pub invariant-loop : goal.invariant-loop
invariant-loop l = record {
  long : length l.columns.items ≡ l.counter;
  empty : (c : ℕ) (d : GatheredColumn) → c < length l.columns.items → ((get_or l.columns.items c d).words.items ≡ []) × ((get_or l.columns.items c d).places.items ≡ []);
}
