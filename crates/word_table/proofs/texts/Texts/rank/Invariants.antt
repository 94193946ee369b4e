-- the string is above all in front of the span that is left, and below all behind it
use Rattle.std.proofs.Common.{◌≡◌, ℕ, ◌-◌, ◌<◌, ◌≤◌, List, length, get_or, Less, Greater}
use Rattle.word_table.specs.Words.{text_order}
use Rattle.word_table.proofs.texts.Texts.rank.Given as goal

abbrev pub invariant-loop-low : goal.invariant-loop-low
invariant-loop-low l = record {
  span : l.low ≤ l.high;
  inside : l.high ≤ length l.self;
  front : (k : ℕ) (d : List ℕ) → k < l.low → text_order (get_or l.self k d) l.sought ≡ Less;
  rest : (k : ℕ) (d : List ℕ) → l.high ≤ k → k < length l.self
      → text_order (get_or l.self k d) l.sought ≡ Greater;
}

abbrev pub decreases-loop-low : goal.decreases-loop-low
decreases-loop-low l = l.high - l.low
