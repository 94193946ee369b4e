use Rattle.std.proofs.Common.{◌≡◌, ◌∙◌, ◌-◌, ◌<◌, length, take, map, All, get_or, sym, ap, arith}
use Rattle.std.proofs.lemmas.List.{length-map, length-take-le}
use Rattle.std.proofs.lemmas.List.Elements.{All-map, All-take}
use Rattle.rel_base.proofs.PickLemmas.{All-items_at, length-items_at}
use Rattle.rel_base.proofs.flat_rows.FlatRows.copies_at.Goals as goal
use Rattle.rel_base.proofs.flat_rows.FlatRows.copies_at.Goals.{After-get}

-- the numbers that are counted on from the first are places among the rows
each : (c : After-get) → All (λ n. n - c.args.first < length c.args.self.now) c.args.numbers.now
each c k d low = omega (arith, c.requires.low k d low, c.requires.high k d low)

within : (c : After-get) → All (λ p. p < length c.args.self.now) (map (λ n. n - c.args.first) (take c.loop-number.number-index c.args.numbers.now))
within c = All-map (λ p. p < length c.args.self.now) (λ n. n - c.args.first) (take c.loop-number.number-index c.args.numbers.now)
    (All-take (λ n. n - c.args.first < length c.args.self.now) c.loop-number.number-index c.args.numbers.now (each c))

pub push-requires-clause-room : goal.push-requires-clause-room
push-requires-clause-room c =
    let i = c.loop-number.number-index in
    let ns = c.args.numbers.now in
    let many = ap length c.loop-number.invariant
    ∙ length-items_at c.args.self.now (map (λ n. n - c.args.first) (take i ns)) (within (goal.at.push-requires-clause-room c).After-get)
    ∙ length-map (take i ns) (λ n. n - c.args.first) ∙ length-take-le i ns (omega (arith, c.loop-number-test.true)) in
    omega (arith, many, c.loop-number-test.true, c.requires.room)

pub push-requires-clause-width : goal.push-requires-clause-width
push-requires-clause-width c =
    let i = c.loop-number.number-index in
    let self = c.args.self.now in
    let place = get_or c.args.numbers.now i 0 - c.args.first in
    let low : place < length self = each (goal.at.push-requires-clause-width c).After-get i 0 c.loop-number-test.true in
    let size = ap length (c.in_ok-copy.ensures ∙ c.get.ensures) ∙ c.width-each.ensures place c.get.result.now low in
    let all = All-items_at (λ r. length r ≡ c.width-each.result) self (map (λ n. n - c.args.first) (take i c.args.numbers.now))
    c.width-each.ensures (within (goal.at.push-requires-clause-width c).After-get) in
    let shown = rw (sym c.loop-number.invariant) at all in
    λ k d less. shown k d less ∙ sym size
