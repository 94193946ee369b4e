use Rattle.std.proofs.Common.{drop, refl, subst}
use Rattle.collector.specs.inner.Cuts.{IsCutAt}
use Rattle.collector.proofs.CutLemmas.{cut_at}
use Rattle.collector.proofs.rests.Rest.cut.Goals as goal

pub returns : goal.returns
returns c =
    let part = c.self.inside.part.now in
    let to = c.place_of-to.result in
    subst (λ rows. IsCutAt c.args.splitter.now rows c.in_ok-front.front (drop to part)) c.self.view_is
    (cut_at c.args.splitter.now part c.in_ok-front.front (drop to part) c.self.inside.from to c.place_of-to.ensures c.in_ok-front.ensures refl)
