use Rattle.std.proofs.Common.{◌∙◌, ap, rules, arith, ◌<◌, ◌^◌}
use Rattle.rel_base.specs.inner.Strides.{stepped}
use Rattle.rel_base.specs.Picks.{items_at}
use Rattle.rel_base.proofs.PickLemmas.{length-stepped, stepped_within, items_at-all}
use Rattle.rel_base.proofs.stretches.Stretch.whole.Goals as goal

pub invariant_of-result : goal.invariant_of-result
invariant_of-result c =
    let bound : c.len-len.result < 2 ^ 32 = search rules in
    (stepped_within 0 1 c.len-len.result _ (λ i low. omega (arith, c.len-len.ensures.value)), omega (arith, bound, length-stepped 0 1 c.len-len.result))

pub returns : goal.returns
returns c = ap (λ n. items_at c.args.block (stepped 0 1 n)) c.len-len.ensures.value ∙ items_at-all c.args.block
