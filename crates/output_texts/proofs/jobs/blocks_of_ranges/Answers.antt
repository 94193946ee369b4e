use Rattle.output_texts.proofs.BlockLemmas.{text_of_blocks}
use Rattle.output_texts.proofs.jobs.blocks_of_ranges.Goals as goal

pub returns : goal.returns
returns g c =
    text_of_blocks c.max-size.result c.args.ranges.now c.in_ok-parts.parts.items c.all_made.result
    c.in_ok-parts.ensures.all c.in_ok-parts.ensures.each c.all_made.ensures
