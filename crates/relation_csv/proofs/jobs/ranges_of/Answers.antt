use Rattle.std.proofs.Common.{ℕ, List, [], ◌∷◌, Bor, map, rules, arith}
use Rattle.std.proofs.lemmas.Grind.{common_steps}
use Rattle.std.proofs.lemmas.List.{map-append}
use Rattle.std.proofs.lemmas.List.Elements.{All-push}
use Rattle.relation_csv.specs.inner.Ranges.{EndsLine}
use Rattle.relation_csv.proofs.RangeLemmas.{joined-push}
use Rattle.relation_csv.proofs.jobs.ranges_of.Goals as goal

pub cuts-preserved : goal.cuts-preserved
cuts-preserved c =
    let range = c.split_behind_line.result.0 in
    let so_far = map (λ (r : Bor (List ℕ)). r.now) c.cuts.ranges.items in
    let now = map-append (λ (r : Bor (List ℕ)). r.now) c.cuts.ranges.items (range ∷ []) in
    record {
      text = search rules;
      ends = rw (c.in_ok-push.ensures.items, now) (All-push EndsLine so_far range.now c.cuts.invariant.ends
          c.split_behind_line.ensures.ends);
      whole = rw (c.in_ok-push.ensures.items, now) (joined-push so_far range.now c.cuts.left.now c.split_behind_line.result.1.now c.args.text.now
          c.cuts.invariant.whole c.split_behind_line.ensures.whole);
    }

pub returns : goal.returns
returns c = grind (arith, common_steps)
