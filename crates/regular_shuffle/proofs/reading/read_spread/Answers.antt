use Rattle.std.proofs.Common.{◌≡◌, true, All, arith}
use Rattle.myrial_ast.specs.Combinations.{Row}
use Rattle.myrial_ast.specs.Groups.{row_fits}
use Rattle.regular_shuffle.proofs.ReadingLemmas.{one-more, all-read}
use Rattle.regular_shuffle.proofs.reading.read_spread.Goals as goal

pub loop-rows-preserved : goal.loop-rows-preserved
loop-rows-preserved c =
    one-more (All (λ (row : Row). row_fits row ≡ true)) c.as_slice-rows-items.result.now c.loop-rows.rows-index c.rows-item.result c.loop-rows-test.true c.rows-item.is c.loop-rows.invariant
    c.read_rows.ensures

pub returns : goal.returns
returns c =
    all-read (All (λ (row : Row). row_fits row ≡ true)) c.as_slice-rows-items.result.now c.args.spread.now c.loop-rows.rows-index (omega (arith, c.loop-rows-test.false)) c.as_slice-rows-items.ensures.value
    c.loop-rows.invariant
