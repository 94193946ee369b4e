use Rattle.std.proofs.lemmas.Iterator.Adapters.{YieldsList-from_vec}
use Rattle.std.proofs.lemmas.Iterator.Consumers.{YieldsList-end}
use Rattle.std.proofs.Common.{◌≡◌, ◌∙◌, ◌++◌, rules, sym, subst}
use Rattle.rel_base.specs.Bags.{SameBag}
use Rattle.rel_base.specs.Picks.{joined}
use Rattle.collector.proofs.CutLemmas.{cut_more, sorted-cut}
use Rattle.collector.proofs.MergeLemmas.{map_same}
use Rattle.collector.proofs.ranges.Rests.cut.Goals as goal

pub loop-rest-preserved : goal.loop-rest-preserved
loop-rest-preserved c =
    let more = cut_more c.args.splitter.now c.loop-rest.yielded c.loop-rest.runs.items c.loop-rest.rests.items
    c.in-Some.rest c.in_ok-run.run' c.in_ok-run.left c.loop-rest.invariant c.in_ok-run.ensures in
    rw (c.in_ok-push.ensures.items, c.in_ok-push-2.ensures.items) more

pub returns : goal.returns
returns c =
    let given = c.into_iter-rest-iterator.ensures.into_iter_gives in
    let all = YieldsList-from_vec c.self.inside.rests.items given.0 (search rules) in
    let end = YieldsList-end all c.loop-rest.yielded c.loop-rest.rest-iterator c.loop-rest.yielded_by c.next.result c.next.new.self c.in-None.is c.next.ensures.steps in
    let whole : c.loop-rest.yielded ≡ c.self.inside.rests.items = sym (map_same c.loop-rest.yielded) ∙ end.0 in
    let are = c.loop-rest.invariant in
    sym c.self.view_is
    ∙ sorted-cut c.args.splitter.now (joined c.self.inside.rests.items) (joined c.loop-rest.runs.items) (joined c.loop-rest.rests.items)
    (subst (λ parts. SameBag (joined parts) (joined c.loop-rest.runs.items ++ joined c.loop-rest.rests.items)) whole are.same_rows)
    are.before are.behind
