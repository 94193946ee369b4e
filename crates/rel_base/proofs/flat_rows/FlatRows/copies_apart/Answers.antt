use Rattle.std.proofs.Common.{◌≡◌, ◌∙◌, ◌+◌, ◌*◌, ◌<◌, ◌++◌, ◌∷◌, [], length, All, sym, ap, arith}
use Rattle.rel_base.specs.Picks.{items_at}
use Rattle.rel_base.specs.inner.Strides.{stepped}
use Rattle.rel_base.proofs.FlatLemmas.{length-rows}
use Rattle.rel_base.proofs.PickLemmas.{All-items_at, length-items_at, length-stepped, one_item, stepped_within}
use Rattle.rel_base.proofs.StrideLemmas.{every_nth-stepped, items_at-one_more}
use Rattle.rel_base.proofs.flat_rows.FlatRows.copies_apart.Goals as goal
use Rattle.rel_base.proofs.flat_rows.FlatRows.copies_apart.Goals.{After-get}

pub get-requires : goal.get-requires
get-requires c =
    let w = c.self.inside.width in
    let many = length-rows w 0 w c.self.inside.len c.self.inside.values.items in
    omega (arith, c.steps_below-count.ensures.inside c.loop-i.i c.loop-i-test.true, many, ap length c.self.view_is)

-- the numbers lie below the number of rows
place : (c : After-get) → c.args.start + c.args.step * c.loop-i.i < length c.args.self.now
place c =
    let w = c.self.inside.width in
    let many = length-rows w 0 w c.self.inside.len c.self.inside.values.items in
    omega (arith, c.steps_below-count.ensures.inside c.loop-i.i c.loop-i-test.true, many, ap length c.self.view_is)

within : (c : After-get) → All (λ p. p < length c.args.self.now) (stepped c.args.start c.args.step c.loop-i.i)
within c =
    let w = c.self.inside.width in
    let many = length-rows w 0 w c.self.inside.len c.self.inside.values.items in
    stepped_within c.args.start c.args.step c.loop-i.i (length c.args.self.now)
    (λ j low. omega (arith, c.steps_below-count.ensures.inside j (omega (arith, low, c.loop-i-test.true)), many, ap length c.self.view_is))

pub push-requires-clause-room : goal.push-requires-clause-room
push-requires-clause-room c =
    let ps = stepped c.args.start c.args.step c.loop-i.i in
    let many = ap length c.loop-i.invariant
    ∙ length-items_at c.args.self.now ps (within (goal.at.push-requires-clause-room c).After-get)
    ∙ length-stepped c.args.start c.args.step c.loop-i.i in
    omega (arith, many, c.loop-i-test.true, c.steps_below-count.type_inv)

pub push-requires-clause-width : goal.push-requires-clause-width
push-requires-clause-width c =
    let self = c.args.self.now in
    let at = c.args.start + c.args.step * c.loop-i.i in
    let low : at < length self = place (goal.at.push-requires-clause-width c).After-get in
    let size = ap length (c.in_ok-copy.ensures ∙ c.get.ensures) ∙ c.width-each.ensures at c.get.result.now low in
    let all = All-items_at (λ r. length r ≡ c.width-each.result) self (stepped c.args.start c.args.step c.loop-i.i)
    c.width-each.ensures (within (goal.at.push-requires-clause-width c).After-get) in
    let shown = rw (sym c.loop-i.invariant) at all in
    λ k d less. shown k d less ∙ sym size

pub loop-i-preserved : goal.loop-i-preserved
loop-i-preserved c =
    let xs = c.args.self.now in
    let i = c.loop-i.i in
    let at = c.args.start + c.args.step * i in
    let item = one_item xs at c.get.result.now (place (goal.at.loop-i-preserved c).After-get)
    ∙ ap (λ x. x ∷ []) (sym (c.in_ok-copy.ensures ∙ c.get.ensures)) in
    c.in_ok-push.ensures.ok ∙ ap (λ ys. ys ++ c.in_ok-copy.copy ∷ []) c.loop-i.invariant
    ∙ items_at-one_more xs c.args.start c.args.step i c.in_ok-copy.copy item

pub returns : goal.returns
returns c =
    let xs = c.args.self.now in
    let w = c.self.inside.width in
    let many = length-rows w 0 w c.self.inside.len c.self.inside.values.items in
    let count = c.steps_below-count.result in
    let all : c.loop-i.i ≡ count = omega (arith, c.loop-i.auto.i-end, c.loop-i-test.false) in
    c.loop-i.invariant ∙ ap (λ n. items_at xs (stepped c.args.start c.args.step n)) all
    ∙ sym (every_nth-stepped xs c.args.step c.args.start count c.requires (omega (arith, c.steps_below-count.ensures.enough, many, ap length c.self.view_is)))
