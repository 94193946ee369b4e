use Rattle.std.proofs.lemmas.Iterator.Adapters.{YieldsList-from_vec}
use Rattle.std.proofs.lemmas.Iterator.Consumers.{YieldsList-end}
use Rattle.std.proofs.Common.{◌≡◌, ◌∙◌, sym, rules}
use Rattle.collector.proofs.MergeLemmas.{map_same}
use Rattle.output_texts.proofs.jobs.all_made.Goals as goal

pub returns : goal.returns
returns c =
    let parts = c.args.parts.items in
    let all = YieldsList-from_vec parts (search rules) (search rules) in
    let end = YieldsList-end all c.loop-part.yielded c.loop-part.part-iterator c.loop-part.yielded_by c.next.result c.next.new.self c.in-None.is c.next.ensures.steps in
    let whole : c.loop-part.yielded ≡ parts = sym (map_same c.loop-part.yielded) ∙ end.0 in
    c.loop-part.invariant ∙ whole
