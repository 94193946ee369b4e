use Rattle.std.proofs.Common.{◌≡◌, ◌++◌, length, reverse}
use Rattle.keyed_terms.specs.inner.Making.{left_rows, right_rows}
use Rattle.keyed_terms.proofs.making.pairs_apart.Given as goal

abbrev pub invariant-loop-rows : goal.invariant-loop-rows
invariant-loop-rows l = record {
  parts : l.parts ++ left_rows (reverse l.own.items) ≡ l.fn.parts;
  others : l.others ++ right_rows (reverse l.own.items) ≡ l.fn.others;
  even : length l.parts ≡ length l.others;
}

abbrev pub decreases-loop-rows : goal.decreases-loop-rows
decreases-loop-rows l = length l.parts
