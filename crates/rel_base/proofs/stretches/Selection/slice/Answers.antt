use Rattle.std.proofs.Common.{◌≡◌, ◌∙◌, ◌+◌, ◌-◌, ◌*◌, ◌^◌, ◌<◌, ◌≤◌, sym, ap, length, take, drop, arith, rules}
use Rattle.rel_base.specs.inner.Strides.{stepped}
use Rattle.rel_base.proofs.PickLemmas.{get_or-stepped, length-stepped}
use Rattle.rel_base.proofs.RangeLemmas.{stepped-stepped, taken-at}
use Rattle.rel_base.proofs.stretches.Selection.slice.Goals as goal
use Rattle.rel_base.proofs.stretches.Selection.slice.Goals.{In-Every}

-- no more places than there are
within : (c : In-Every) → c.args.to ≤ c.in-Every.len
within c =
    let all = rw c.in-Every.is at c.requires.within in
    omega (arith, all, length-stepped c.in-Every.start c.in-Every.step c.in-Every.len)

-- the first place is one of them
place : (c : In-Every) → c.in-Every.start + c.in-Every.step * c.args.from < 2 ^ 32
place c =
    let places = rw c.in-Every.is at c.requires.places in
    let len : c.args.len < 2 ^ 32 = search rules in
    let low : c.args.from < c.in-Every.len = omega (arith, within c, c.requires.order) in
    let low2 : c.args.from < length (stepped c.in-Every.start c.in-Every.step c.in-Every.len) =
    omega (arith, low, length-stepped c.in-Every.start c.in-Every.step c.in-Every.len) in
    omega (arith, places c.args.from 0 low2, len, get_or-stepped c.in-Every.start c.in-Every.step c.in-Every.len c.args.from 0 low)

pub overflow_mul-result : goal.overflow_mul-result
overflow_mul-result c =
    let bound : c.in-Every.step * c.args.from < 2 ^ 32 = omega (arith, place (goal.at.overflow_mul-result c).In-Every) in
    search (rules, bound)

pub overflow_add-result : goal.overflow_add-result
overflow_add-result c =
    let bound : c.in-Every.start + c.in-Every.step * c.args.from < 2 ^ 32 =
    place (goal.at.overflow_add-result c).In-Every in
    search (rules, bound)

pub returns-in-Every : goal.returns-in-Every
returns-in-Every c =
    let room = within (goal.at.returns-in-Every c).In-Every in
    let same = stepped-stepped c.in-Every.start c.in-Every.step c.in-Every.len c.args.from (c.args.to - c.args.from)
    (omega (arith, room, c.requires.order)) in
    rw c.in-Every.is (sym same)

pub returns-in_ok-places-in-At : goal.returns-in_ok-places-in-At
returns-in_ok-places-in-At c =
    let ps = c.in-At.places.items in
    let all = rw c.in-At.is at c.requires.within in
    let taken : c.in_ok-places-in-At.places.items ≡ take (c.args.to - c.args.from) (drop c.args.from ps) =
    c.in_ok-places-in-At.ensures.items
    ∙ ap (λ xs. take (c.args.to - c.args.from) (drop c.args.from xs)) c.deref.ensures.value in
    rw c.in-At.is (taken ∙ sym (taken-at ps c.args.from (c.args.to - c.args.from) 0 (omega (arith, all, c.requires.order))))
