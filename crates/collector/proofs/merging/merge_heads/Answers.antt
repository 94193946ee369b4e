use Rattle.std.proofs.Common.{◌≡◌, ◌∙◌, ◌++◌, map, ap, rules, length}
use Rattle.std.specs.Vec.Iter.{into_iter_items, into_iter_len}
use Rattle.collector.proofs.MergeLemmas.{all_by_less, all_given, by_order, given_in_order, run_items, sources, strict}
use Rattle.collector.proofs.merging.merge_heads.Goals as goal

pub returns : goal.returns
returns g c =
    let order = g.T.Ord.cmp in
    let partial = g.T.PartialOrd.partial_cmp in
    let total = g.met.T.Ord.total in
    let agree = g.met.T.Ord.matches_partial_cmp in
    let lists = c.args.lists.items in
    let ls = map (λ list. list.items) lists in
    let long : c.args.lists.len ≡ length lists = search rules in
    let ran = c.in_ok-extend.ensures.ran in
    let xs = ran.1 in
    let drained = rw ran.2 at ran.4 in
    let merged = c.in_ok-merged.ensures in
    let source = sources {order = order} lists c.requires in
    let first = merged.items in
    let second = merged.in_order in
    let one = run_items lists first.0 first.2 (ap (λ s. into_iter_items s) first.1 ∙ c.into_iter.ensures.rest)
    (ap (λ s. into_iter_len s) first.1 ∙ c.into_iter.ensures.len ∙ long) in
    let two = run_items lists second.0 second.2 (ap (λ s. into_iter_items s) second.1 ∙ c.into_iter.ensures.rest)
    (ap (λ s. into_iter_len s) second.1 ∙ c.into_iter.ensures.len ∙ long) in
    let items : c.extend.new.self.items ≡ xs = ran.3.0 ∙ ap (λ ys. ys ++ xs) c.in_ok-all.ensures.items in
    let moved = all_given partial c.in_ok-merged.merged xs drained ls (first.3 ls (rw one source)) in
    let ascending = given_in_order partial c.in_ok-merged.merged xs drained
    (second.3 (strict order partial total agree) ls (rw two source) (all_by_less order partial total agree lists c.requires)) in
    record {
      same_items = rw items moved;
      in_order = rw items (by_order order partial total agree xs ascending);
    }
