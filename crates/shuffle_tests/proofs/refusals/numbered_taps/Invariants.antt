-- there is room for the taps that are left
use Rattle.std.proofs.Common.{◌≡◌}
use Rattle.std.specs.Prelude.{vec_len}
use Rattle.std.specs.Vec.{vec_capacity}
use Rattle.rel_base.specs.Limits.{taps as tap_count}
use Rattle.shuffle_tests.proofs.refusals.numbered_taps.Given as goal

abbrev pub invariant-loop-number : goal.invariant-loop-number
invariant-loop-number l = record {
  len : vec_len l.taps ≡ l.number;
  room : vec_capacity l.taps ≡ tap_count;
}
