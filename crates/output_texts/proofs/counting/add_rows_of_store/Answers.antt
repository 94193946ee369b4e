use Rattle.output_texts.proofs.TrialLemmas.{rows-more}
use Rattle.output_texts.proofs.counting.add_rows_of_store.Goals as goal

pub loop-part-preserved : goal.loop-part-preserved
loop-part-preserved c =
    rows-more (λ part. part) _ c.loop-part.all.items c.add_rows.new.all.items c.as_slice-part-items.result.now c.loop-part.part-index c.part-item.result
    c.loop-part-test.true c.part-item.is c.loop-part.invariant c.in_ok-add_rows.ensures
