use Rattle.output_texts.proofs.BlockLemmas.{text-more}
use Rattle.output_texts.proofs.blocks.Block.add_ranges.Goals as goal

pub loop-range-preserved : goal.loop-range-preserved
loop-range-preserved c =
    text-more c.args.self.now c.loop-range.self c.add_range.new.self c.args.ranges.now c.loop-range.range-index c.range-item.result
    c.loop-range-test.true c.range-item.is c.loop-range.invariant c.in_ok-add_range.ensures
