use Rattle.std.proofs.Common.{◌≡◌, ◌-◌, [], sym, ◌∙◌, ap, length, get_or, take}
use Rattle.std.proofs.lemmas.List.{get_or_read}
use Rattle.rel_base.specs.Picks.{joined}
use Rattle.rel_base.proofs.StartLemmas.{item_of_list}
use Rattle.rel_base.proofs.shared_rows.SharedRows.get.Goals as goal

pub returns : goal.returns
returns c =
    let xss = c.as_slice-stretches.result.now in
    let k = c.stretch_of-k.result in
    let start = get_or c.as_slice-starts.result.now k 0 in
    let d = c.get.result.now in
    let found = c.stretch_of-k.ensures in
    let xss-is = c.as_slice-stretches.ensures.value in
    let starts-is = c.as_slice-starts.ensures.value in
    let begins : start ≡ length (joined (take k xss)) =
    rw (starts-is, xss-is) ((c.self.invariant.1).each k (rw xss-is at found.inside)) in
    c.get.ensures
    ∙ ap (λ xs. get_or xs (c.args.i - start) d) (get_or_read xss k _ found.inside c.index-stretches-k.is [])
    ∙ sym (item_of_list xss k start c.args.i d found.inside begins found.begins found.ends)
    ∙ ap (λ xs. get_or xs c.args.i d) (ap joined xss-is ∙ c.self.view_is)
