use Rattle.std.proofs.Common.{◌∙◌}
use Rattle.myrial_types.proofs.ClassesLemmas.{columns-more}
use Rattle.myrial_types.proofs.classes.all_columns.Goals as goal

pub loop-width-preserved : goal.loop-width-preserved
loop-width-preserved c =
    c.in_ok-push_columns.ensures ∙ columns-more c.args.widths.now c.loop-width.width-index c.loop-width-test.true c.loop-width.columns.items c.loop-width.invariant
