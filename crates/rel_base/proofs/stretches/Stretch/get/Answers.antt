use Rattle.std.proofs.Common.{◌∙◌, arith, rules, ◌<◌, ◌+◌, ◌*◌, ◌^◌, length}
use Rattle.rel_base.proofs.PickLemmas.{items_at-every_length, items_at-length, place_every, item_every, item_at}
use Rattle.rel_base.proofs.stretches.Stretch.get.Goals as goal
use Rattle.rel_base.proofs.stretches.Stretch.get.Goals.{In-Every}

-- the place lies in the block
place : (c : In-Every) → c.in-Every.start + c.in-Every.step * c.args.i < length c.self.inside.block
place c =
    let shown = rw c.in-Every.is at c.self.view_is in
    let within = rw c.in-Every.is at c.self.invariant in
    let same = items_at-every_length _ _ _ _ _ within.0 shown in
    place_every _ _ _ c.in-Every.len c.args.i within.0 (omega (arith, c.requires, same))

pub overflow_mul-step : goal.overflow_mul-step
overflow_mul-step c =
    let bound : c.in-Every.step * c.args.i < 2 ^ 32 = omega (arith, place (goal.at.overflow_mul-step c).In-Every, c.len-few.ensures.bound) in
    search (rules, bound)

pub overflow_add-start : goal.overflow_add-start
overflow_add-start c =
    let bound : c.in-Every.start + c.in-Every.step * c.args.i < 2 ^ 32 = omega (arith, place (goal.at.overflow_add-start c).In-Every, c.len-few.ensures.bound) in
    search (rules, bound)

pub get-requires : goal.get-requires
get-requires c = place (goal.at.get-requires c).In-Every

pub index-requires : goal.index-requires
index-requires c =
    let shown = rw c.in-At.is at c.self.view_is in
    let within = rw c.in-At.is at c.self.invariant in
    let same = items_at-length _ _ _ within.0 shown in
    omega (arith, c.requires, c.in-At.places.ok, same)

pub get-requires-in-At : goal.get-requires-in-At
get-requires-in-At c =
    let shown = rw c.in-At.is at c.self.view_is in
    let within = rw c.in-At.is at c.self.invariant in
    let same = items_at-length _ _ _ within.0 shown in
    let inside = within.0 c.args.i c.index.result.now (omega (arith, c.requires, same)) in
    omega (arith, inside, c.index.ensures)

pub returns-in-Every : goal.returns-in-Every
returns-in-Every c =
    let shown = rw c.in-Every.is at c.self.view_is in
    let within = rw c.in-Every.is at c.self.invariant in
    let same = items_at-every_length _ _ _ _ _ within.0 shown in
    c.get.ensures ∙ item_every _ _ _ _ c.args.i _ _ within.0 shown (omega (arith, c.requires, same))

pub returns-in-At : goal.returns-in-At
returns-in-At c =
    let shown = rw c.in-At.is at c.self.view_is in
    let within = rw c.in-At.is at c.self.invariant in
    let same = items_at-length _ _ _ within.0 shown in
    c.get-in-At.ensures ∙ item_at _ _ c.args.i _ _ _ within.0 shown (omega (arith, c.requires, same)) c.index.ensures
