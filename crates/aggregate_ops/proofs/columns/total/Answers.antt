use Rattle.std.proofs.Common.{◌≡◌, ◌≤ℤ◌, ◌+◌, ◌*◌, ◌^◌, neg_ℤ, pos, FitsSigned, to_z, of_z, arith}
use Rattle.std.specs.Int.{w128}
use Rattle.std.proofs.lemmas.Int.{ints, to_z-of_z}
use Rattle.aggregate_ops.specs.inner.Reading.{row_of, rows_of}
use Rattle.aggregate_ops.proofs.ColumnLemmas.{total-more, fits-wide}
use Rattle.aggregate_ops.proofs.columns.total.Goals as goal

pub loop-i-preserved : goal.loop-i-preserved
loop-i-preserved c =
    let made = c.with_number-sum.result in
    let value =
    total-more (rows_of c.args.run) c.loop-i.i c.args.place (row_of c.get.result) (to_z w128 c.loop-i.sum-bits) made (omega arith)
    c.get.ensures c.loop-i.invariant.0 c.with_number-sum.ensures.value in
    let low : neg_ℤ (pos ((c.loop-i.i + 1) * 2 ^ 63)) ≤ℤ made = omega (arith, ints) in
    let high : made ≤ℤ pos ((c.loop-i.i + 1) * 2 ^ 63) = omega (arith, ints) in
    let fits : FitsSigned w128 made = fits-wide made (omega (arith, ints)) (omega (arith, ints)) in
    let back : to_z w128 (of_z w128 made) ≡ made = to_z-of_z w128 made fits in
    rw back (value, low, high)
