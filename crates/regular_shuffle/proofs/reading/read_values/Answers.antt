use Rattle.std.proofs.Common.{◌≡◌, true, All, arith}
use Rattle.myrial_ast.specs.Combinations.{Row}
use Rattle.myrial_ast.specs.Groups.{row_fits}
use Rattle.regular_shuffle.proofs.ReadingLemmas.{one-more, all-read}
use Rattle.regular_shuffle.proofs.reading.read_values.Goals as goal

pub loop-spread-preserved : goal.loop-spread-preserved
loop-spread-preserved c =
    one-more (All (All (λ (row : Row). row_fits row ≡ true))) c.as_slice-spread-items.result.now c.loop-spread.spread-index c.spread-item.result c.loop-spread-test.true c.spread-item.is
    c.loop-spread.invariant c.read_spread.ensures

pub returns : goal.returns
returns c =
    all-read (All (All (λ (row : Row). row_fits row ≡ true))) c.as_slice-spread-items.result.now c.args.parts.now c.loop-spread.spread-index (omega (arith, c.loop-spread-test.false))
    c.as_slice-spread-items.ensures.value c.loop-spread.invariant
