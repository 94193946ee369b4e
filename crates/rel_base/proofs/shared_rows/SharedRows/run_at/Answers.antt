use Rattle.std.proofs.Common.{◌≡◌, ◌+◌, ◌-◌, ◌<◌, [], length, take, map, All, sym, ap, ◌∙◌, arith, get_or}
use Rattle.std.proofs.lemmas.List.{get_or_read, length-take-le}
use Rattle.rel_base.specs.Picks.{items_at, joined}
use Rattle.rel_base.proofs.PickLemmas.{length-items_at}
use Rattle.rel_base.proofs.StartLemmas.{items_of_list, end_within}
use Rattle.rel_base.proofs.shared_rows.SharedRows.run_at.Goals as goal

pub returns : goal.returns
returns c =
    let xss = c.as_slice-stretches.result.now in
    let k = c.stretch_of-k.result in
    let start = get_or c.as_slice-starts.result.now k 0 in
    let found = c.stretch_of-k.ensures in
    let xss-is = c.as_slice-stretches.ensures.value in
    let starts-is = c.as_slice-starts.ensures.value in
    let begins : start ≡ length (joined (take k xss)) =
    rw (starts-is, xss-is) ((c.self.invariant.1).each k (rw xss-is at found.inside)) in
    let row = get_or_read xss k _ found.inside c.index-stretches-k.is [] in
    let row-len = c.len.ensures ∙ ap length row in
    let taken = c.run_length-count.ensures in
    let count = c.run_length-count.result in
    let ns = take count c.args.places.now in
    let high : All (λ n. n < start + length (get_or xss k [])) ns = λ i d low. omega (arith, taken.high i d low, row-len) in
    let within : All (λ n. n < length (joined xss)) ns = λ i d low. omega (arith, high i d low, begins, end_within xss k found.inside) in
    let run = c.in_ok-run.run' in
    let here : run ≡ items_at (joined xss) ns =
    c.in_ok-run.ensures ∙ ap (λ xs. items_at xs (map (λ n. n - start) ns)) row
    ∙ sym (items_of_list xss k start ns found.inside begins taken.low high) in
    let many : length run ≡ count =
    ap length here ∙ length-items_at (joined xss) ns within ∙ length-take-le count c.args.places.now taken.bound in
    let first = taken.some c.requires.some found.begins (omega (arith, found.ends, row-len, ap length row)) in
    record {
      run = here ∙ ap (λ xs. items_at xs ns) (ap joined xss-is ∙ c.self.view_is) ∙ ap (λ n. items_at c.args.self.now (take n c.args.places.now)) (sym many);
      some = omega (arith, many, first);
      bound = omega (arith, many, taken.bound);
      within = rw (many, ← c.self.view_is, ← xss-is) within;
    }
