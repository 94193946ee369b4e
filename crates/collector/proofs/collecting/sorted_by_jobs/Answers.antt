use Rattle.std.proofs.lemmas.Iterator.Adapters.{YieldsList-from_vec}
use Rattle.std.proofs.lemmas.Iterator.Consumers.{YieldsList-end}
use Rattle.std.proofs.Common.{◌≡◌, ◌∙◌, map, ap, sym, rules}
use Rattle.collector.proofs.MergeLemmas.{map_same}
use Rattle.collector.proofs.collecting.sorted_by_jobs.Goals as goal

pub returns : goal.returns
returns c =
    let jobs = c.args.jobs.items in
    let all = YieldsList-from_vec jobs (search rules) (search rules) in
    let end = YieldsList-end all c.loop-job.yielded c.loop-job.job-iterator c.loop-job.yielded_by c.next.result c.next.new.self c.in-None.is c.next.ensures.steps in
    let whole : c.loop-job.yielded ≡ jobs = sym (map_same c.loop-job.yielded) ∙ end.0 in
    c.loop-job.invariant ∙ ap (map (λ job. job.sorted)) whole
