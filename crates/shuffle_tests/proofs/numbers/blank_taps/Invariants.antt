-- the taps so far were told nothing, and there is room for the others
use Rattle.std.proofs.Common.{◌≡◌, All}
use Rattle.std.specs.Prelude.{vec_len}
use Rattle.std.specs.Vec.{vec_capacity}
use Rattle.rel_io.specs.Taps.{no_rows}
use Rattle.shuffle_tests.proofs.numbers.blank_taps.Given as goal

abbrev pub invariant-loop-tag : goal.invariant-loop-tag
invariant-loop-tag l = record {
  len : vec_len l.taps ≡ l.tag;
  room : vec_capacity l.taps ≡ l.count;
  blank : All (λ t. t.totals ≡ no_rows) l.taps.items;
}
