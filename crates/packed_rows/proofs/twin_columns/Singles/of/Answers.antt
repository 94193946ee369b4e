use Rattle.std.proofs.Common.{arith}
use Rattle.packed_rows.proofs.twin_columns.Singles.of.Goals as goal

pub returns : goal.returns
returns c = record {
  long = c.loop-place.invariant.long;
  each = λ k d e low. c.loop-place.invariant.each k d e (omega (arith, low));
}
