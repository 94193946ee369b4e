use Rattle.std.proofs.Common.{◌≡◌, ◌∙◌, ◌+◌, ◌*◌, ◌<◌, ◌++◌, ◌∷◌, [], length, sym, ap, arith}
use Rattle.rel_base.specs.Picks.{items_at}
use Rattle.rel_base.specs.inner.Strides.{stepped}
use Rattle.rel_base.proofs.PickLemmas.{one_item}
use Rattle.rel_base.proofs.StrideLemmas.{every_nth-stepped, items_at-one_more}
use Rattle.rel_base.proofs.strides.copies_apart.Goals as goal

pub loop-i-preserved : goal.loop-i-preserved
loop-i-preserved g c =
    let xs = c.args.items.now in
    let i = c.loop-i.i in
    let place = c.args.start + c.args.step * i in
    let low : place < length xs = omega (arith, c.steps_below-count.ensures.inside i c.loop-i-test.true) in
    let item = one_item xs place c.index-items-start.result low
    ∙ ap (λ x. x ∷ []) (sym (c.in_ok-copy.ensures ∙ c.index-items-start.is)) in
    c.in_ok-push.ensures.items ∙ ap (λ ys. ys ++ c.in_ok-copy.copy ∷ []) c.loop-i.invariant
    ∙ items_at-one_more xs c.args.start c.args.step i c.in_ok-copy.copy item

pub returns : goal.returns
returns g c =
    let xs = c.args.items.now in
    let count = c.steps_below-count.result in
    let all : c.loop-i.i ≡ count = omega (arith, c.loop-i.auto.i-end, c.loop-i-test.false) in
    c.loop-i.invariant ∙ ap (λ n. items_at xs (stepped c.args.start c.args.step n)) all
    ∙ sym (every_nth-stepped xs c.args.step c.args.start count c.requires.order (omega (arith, c.steps_below-count.ensures.enough)))
