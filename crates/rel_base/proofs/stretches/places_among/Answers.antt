use Rattle.std.proofs.Common.{◌-◌, ◌<◌, get_or, length, rules, arith, ◌≡◌, ◌∙◌, ℕ, List, ap}
use Rattle.std.proofs.lemmas.Grind.{common_steps}
use Rattle.std.proofs.lemmas.List.Edits.{map_over_more}
use Rattle.rel_base.proofs.PickLemmas.{get_or-past_map}
use Rattle.rel_base.proofs.stretches.places_among.Goals as goal

pub loop-place-preserved : goal.loop-place-preserved
loop-place-preserved c =
    let ns = c.args.numbers.now in
    let low : c.loop-place.place-index < length ns = search rules in
    map_over_more (λ n. get_or c.args.among.now (n - c.args.first) 0) ns c.loop-place.place-items c.loop-place.place-index _ low c.loop-place.invariant (search rules)

pub returns : goal.returns
returns c = grind (arith, common_steps)

pub overflow_sub-place : goal.overflow_sub-place
overflow_sub-place c =
    let ns = c.args.numbers.now in
    let low : c.loop-place.place-index < length ns = search rules in
    let same : get_or c.loop-place.place-items c.loop-place.place-index 0 ≡ get_or ns c.loop-place.place-index 0 =
    ap (λ (places : List ℕ). get_or places c.loop-place.place-index 0) c.loop-place.invariant ∙ get_or-past_map (λ n. get_or c.args.among.now (n - c.args.first) 0) ns c.loop-place.place-index 0 low in
    rw same (c.requires.low c.loop-place.place-index 0 low)

pub bounds-among-place : goal.bounds-among-place
bounds-among-place c =
    let ns = c.args.numbers.now in
    let low : c.loop-place.place-index < length ns = search rules in
    let same : get_or c.loop-place.place-items c.loop-place.place-index 0 ≡ get_or ns c.loop-place.place-index 0 =
    ap (λ (places : List ℕ). get_or places c.loop-place.place-index 0) c.loop-place.invariant ∙ get_or-past_map (λ n. get_or c.args.among.now (n - c.args.first) 0) ns c.loop-place.place-index 0 low in
    rw same (omega (arith, c.requires.low c.loop-place.place-index 0 low, c.requires.high c.loop-place.place-index 0 low))
