use Rattle.std.proofs.Common.{◌<◌, length, arith}
use Rattle.myrial_ast.specs.Combinations.{Rows}
use Rattle.regular_shuffle.proofs.ReadingLemmas.{one-more, all-read}
use Rattle.regular_shuffle.proofs.reading.read_lengths.Goals as goal

pub loop-rows-preserved : goal.loop-rows-preserved
loop-rows-preserved c =
    one-more (λ (rows : Rows). length rows < 4294967296) c.as_slice-rows-items.result.now c.loop-rows.rows-index c.rows-item.result c.loop-rows-test.true c.rows-item.is c.loop-rows.invariant
    (omega (arith, c.len-read.ensures))

pub returns : goal.returns
returns c =
    all-read (λ (rows : Rows). length rows < 4294967296) c.as_slice-rows-items.result.now c.args.spread.now c.loop-rows.rows-index (omega (arith, c.loop-rows-test.false)) c.as_slice-rows-items.ensures.value
    c.loop-rows.invariant
