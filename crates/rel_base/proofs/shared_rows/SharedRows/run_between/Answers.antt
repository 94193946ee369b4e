use Rattle.std.proofs.Common.{◌≡◌, ◌∙◌, ◌+◌, ◌-◌, ◌≤◌, [], sym, ap, length, take, get_or, arith}
use Rattle.std.proofs.lemmas.List.{get_or_read}
use Rattle.rel_base.specs.Picks.{items_at, joined}
use Rattle.rel_base.specs.inner.Strides.{stepped}
use Rattle.rel_base.proofs.PickLemmas.{length-items_at, length-stepped}
use Rattle.rel_base.proofs.RangeLemmas.{stepped-below, stepped-from, stepped-minus}
use Rattle.rel_base.proofs.StartLemmas.{end_within, items_of_list}
use Rattle.rel_base.proofs.shared_rows.SharedRows.run_between.Goals as goal

pub returns : goal.returns
returns c =
    let xss = c.as_slice-stretches.result.now in
    let k = c.stretch_of-k.result in
    let start = get_or c.as_slice-starts.result.now k 0 in
    let found = c.stretch_of-k.ensures in
    let xss-is = c.as_slice-stretches.ensures.value in
    let starts-is = c.as_slice-starts.ensures.value in
    let begins : start ≡ length (joined (take k xss)) =
    rw (starts-is, xss-is) ((c.self.invariant.1).each k (rw xss-is at found.inside)) in
    let row = get_or_read xss k _ found.inside c.index-stretches-k.is [] in
    let row-len = c.len.ensures ∙ ap length row in
    let from = c.args.from in
    let low : start ≤ from = found.begins in
    let end = c.min-end.result in
    let n = end - (from - start) in
    let run = c.in_ok-run.run' in
    let room : from + n ≤ start + length (get_or xss k []) = omega (arith, found.begins, found.ends, row-len, c.min-end.ensures) in
    let high = stepped-below from n (start + length (get_or xss k [])) room in
    let inside = end_within xss k found.inside in
    let all = stepped-below from n (length (joined xss)) (omega (arith, room, inside, begins)) in
    let here : run ≡ items_at (joined xss) (stepped from 1 n) =
    c.in_ok-run.ensures ∙ ap (λ xs. items_at xs (stepped (from - start) 1 n)) row
    ∙ ap (items_at (get_or xss k [])) (sym (stepped-minus start from n low))
    ∙ sym (items_of_list xss k start (stepped from 1 n) found.inside begins
    (λ i d less. omega (arith, low, stepped-from from n i d less)) high) in
    let many : length run ≡ n =
    ap length here ∙ length-items_at (joined xss) (stepped from 1 n) all ∙ length-stepped from 1 n in
    let whole : joined xss ≡ c.args.self.now = ap joined xss-is ∙ c.self.view_is in
    record {
      run = here ∙ ap (λ xs. items_at xs (stepped from 1 n)) whole
          ∙ ap (λ m. items_at c.args.self.now (stepped from 1 m)) (sym many);
      some = omega (arith, many, found.begins, found.ends, row-len, c.min-end.ensures, c.requires.order);
      bound = omega (arith, many, found.begins, row-len, c.min-end.ensures, c.requires.order);
      within = omega (arith, many, room, inside, begins, ap length whole);
    }
