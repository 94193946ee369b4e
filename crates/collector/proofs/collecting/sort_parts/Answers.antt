use Rattle.std.proofs.Common.{◌∙◌, subst}
use Rattle.rel_base.specs.Bags.{SameBag}
use Rattle.rel_base.specs.Picks.{joined}
use Rattle.collector.proofs.CollectLemmas.{sorted_by_jobs}
use Rattle.collector.proofs.CutLemmas.{sorted-same}
use Rattle.collector.proofs.collecting.sort_parts.Goals as goal

pub returns : goal.returns
returns g c =
    let made = c.in_ok-parts.parts.items in
    let parts = c.in_ok-jobs.ensures ∙ c.as_slice.ensures.value in
    sorted-same (joined c.args.parts.now) (joined made)
    (subst (λ ps. SameBag (joined ps) (joined made)) parts (sorted_by_jobs _ _ _ c.run_jobs.ensures c.in_ok-parts.ensures))
