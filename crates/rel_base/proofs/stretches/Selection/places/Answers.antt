use Rattle.std.proofs.Common.{◌≡◌, sym, ◌∙◌, ap, arith, rules, ◌<◌, ◌+◌, ◌-◌, ◌*◌, ◌^◌, ℕ, get_or, length}
use Rattle.rel_base.specs.inner.Selections.{places_of}
use Rattle.rel_base.proofs.PickLemmas.{length-stepped, get_or-stepped, map-agree}
use Rattle.rel_base.proofs.stretches.Selection.places.Goals as goal
use Rattle.rel_base.proofs.stretches.Selection.places.Goals.{In-Every}

-- a number is that of a row
inside : (c : In-Every) (k d : ℕ) → k < length c.args.numbers.now → get_or c.args.numbers.now k d - c.args.first < length (places_of c.args.self.now)
inside c k d low = omega (arith, c.requires.high k d low, c.requires.low k d low)

-- the row's place
same : (c : In-Every) (i : ℕ) → i < length (places_of c.args.self.now) → get_or (places_of c.args.self.now) i 0 ≡ c.in-Every.start + c.in-Every.step * i
same c i low =
    let here = rw c.in-Every.is at low in
    ap (λ w. get_or (places_of w) i 0) c.in-Every.is
    ∙ get_or-stepped c.in-Every.start c.in-Every.step c.in-Every.len i 0 (omega (arith, here, length-stepped c.in-Every.start c.in-Every.step c.in-Every.len))

pub places_by_step-requires-clause-high : goal.places_by_step-requires-clause-high
places_by_step-requires-clause-high c = λ k d low.
    let len : c.args.len < 2 ^ 32 = search rules in
    let at = inside (goal.at.places_by_step-requires-clause-high c).In-Every k d low in
    let i = get_or c.args.numbers.now k d - c.args.first in
    omega (arith, same (goal.at.places_by_step-requires-clause-high c).In-Every i at, c.requires.within i 0 at, len)

pub returns-in-Every : goal.returns-in-Every
returns-in-Every c =
    let e = (goal.at.returns-in-Every c).In-Every in
    let both = map-agree (λ n. c.in-Every.start + c.in-Every.step * (n - c.args.first)) (λ n. get_or (places_of c.args.self.now) (n - c.args.first) 0) c.args.numbers.now
    (λ k d low. sym (same e (get_or c.args.numbers.now k d - c.args.first) (inside e k d low))) in
    rw both at c.places_by_step.ensures
