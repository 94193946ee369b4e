use Rattle.std.proofs.Common.{◌∙◌, ap, length}
use Rattle.myrial_types.proofs.ClassesLemmas.{place-more}
use Rattle.myrial_types.proofs.classes.push_columns.Goals as goal

pub loop-nth-preserved : goal.loop-nth-preserved
loop-nth-preserved c =
    c.in_ok-push.ensures.items
    ∙ place-more c.args.columns.now.items c.loop-nth.columns.items c.loop-nth._nth (length c.as_slice-place.result.now) c.loop-nth.invariant (ap length c.as_slice-place.ensures.value)
