use Rattle.std.proofs.Common.{◌≡◌, ◌<◌, length, get_or, ap, ◌∙◌, arith, rules}
use Rattle.std.proofs.lemmas.Grind.{common_steps}
use Rattle.std.proofs.lemmas.List.{get_or_default}
use Rattle.std.proofs.Math.ListN.{set}
use Rattle.word_table.proofs.RankLemmas.{HasRanks-more, kept-before}
use Rattle.word_table.proofs.ranking.put_ranks.Goals as goal

pub offset_bounds-ranks-number : goal.offset_bounds-ranks-number
offset_bounds-ranks-number c =
    let count = c.loop-place.place-index in
    let q = get_or c.args.places.now count 0 in
    let there : count < length c.args.places.now = omega arith in
    let kept = kept-before c.args.places.now count c.args.ranks.now c.args.words.now.items c.loop-place.words.items c.requires.ascending there c.loop-place.invariant in
    let within = c.requires.within count 0 there in
    let long = c.loop-place.invariant.long in
    let numbered = c.requires.numbers count 0 there in
    let read : c.index-number.result.now ≡ get_or c.loop-place.words.items q 0 = c.index-number.ensures ∙ get_or_default c.loop-place.words.items q c.index-number.result.now 0 (omega arith) in
    let low : c.index-number.result.now < length c.args.ranks.now = omega arith in
    search (low, arith, rules)

pub bounds-ranks-number : goal.bounds-ranks-number
bounds-ranks-number c =
    let count = c.loop-place.place-index in
    let q = get_or c.args.places.now count 0 in
    let there : count < length c.args.places.now = omega arith in
    let kept = kept-before c.args.places.now count c.args.ranks.now c.args.words.now.items c.loop-place.words.items c.requires.ascending there c.loop-place.invariant in
    let within = c.requires.within count 0 there in
    let long = c.loop-place.invariant.long in
    let numbered = c.requires.numbers count 0 there in
    let read : c.index-number.result.now ≡ get_or c.loop-place.words.items q 0 = c.index-number.ensures ∙ get_or_default c.loop-place.words.items q c.index-number.result.now 0 (omega arith) in
    omega arith

pub loop-place-preserved : goal.loop-place-preserved
loop-place-preserved c =
    let count = c.loop-place.place-index in
    let places = c.args.places.now in
    let ranks = c.args.ranks.now in
    let mid = c.loop-place.words.items in
    let q = get_or places count 0 in
    let there : count < length places = omega arith in
    let within = c.requires.within count 0 there in
    let long = c.loop-place.invariant.long in
    let read : c.index-number.result.now ≡ get_or mid q 0 = c.index-number.ensures ∙ get_or_default mid q c.index-number.result.now 0 (omega arith) in
    HasRanks-more places count q ranks c.args.words.now.items mid (set mid q (get_or ranks c.index-number.result.now 0)) c.requires.ascending there (get_or_default places count 0 q there) within
    (ap (λ n. set mid q (get_or ranks n 0)) read) c.loop-place.invariant

pub returns : goal.returns
returns c = grind (arith, common_steps)
