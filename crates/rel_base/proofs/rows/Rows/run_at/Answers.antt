use Rattle.std.proofs.Common.{◌≡◌, ◌∙◌, ◌+◌, ◌<◌, All, sym, ap, length, length-append, take, arith, rules}
use Rattle.std.proofs.lemmas.Grind.{common_steps}
use Rattle.std.proofs.lemmas.List.{length-take-le}
use Rattle.rel_base.specs.Picks.{items_at}
use Rattle.rel_base.proofs.PickLemmas.{length-items_at}
use Rattle.rel_base.proofs.StartLemmas.{items_at-front, items_at-back}
use Rattle.rel_base.proofs.rows.Rows.run_at.Goals as goal
use Rattle.rel_base.proofs.rows.Rows.run_at.Goals.{In_ok-copies}

pub returns-then-places-first-clause-run : goal.returns-then-places-first-clause-run
returns-then-places-first-clause-run c =
    let ns = take (length c.in_ok-run.run') c.args.places.now in
    c.in_ok-run.ensures.run
    ∙ sym (items_at-front c.self.inside.shared c.self.inside.own ns c.in_ok-run.ensures.within)
    ∙ ap (λ xs. items_at xs ns) c.self.view_is

-- as many as were counted, at the places that were counted
copied : (c : In_ok-copies) → (length c.in_ok-copies.copies ≡ c.run_length-count.result)
    × (c.in_ok-copies.copies ≡ items_at c.args.self.now (take c.run_length-count.result c.args.places.now))
copied c =
    let shared = c.self.inside.shared in
    let own = c.self.inside.own in
    let count = c.run_length-count.result in
    let ns = take count c.args.places.now in
    let first = c.len-first.result in
    let taken = c.run_length-count.ensures in
    let len : c.len.result ≡ length own = search rules in
    let high : All (λ n. n < first + length own) ns = λ k d low. omega (arith, taken.high k d low, len) in
    let back = items_at-back shared own first ns c.len-first.ensures taken.low high in
    let whole = c.in_ok-copies.ensures ∙ sym back ∙ ap (λ xs. items_at xs ns) c.self.view_is in (
      ap length whole ∙ length-items_at c.args.self.now ns (λ k d low. omega (arith, high k d low, length-append shared own, ap length c.self.view_is, c.len-first.ensures)) ∙ length-take-le count c.args.places.now taken.bound,
      whole,
    )

pub of-requires : goal.of-requires
of-requires c = omega (arith, (copied c).0, c.run_length-count.ensures.bound, c.requires.room)

pub returns-clause-run : goal.returns-clause-run
returns-clause-run c =
    let both = copied (goal.at.returns-clause-run c).In_ok-copies in
    let same = c.whole.ensures ∙ c.in_ok-block.ensures.ok in
    same ∙ both.1 ∙ ap (λ n. items_at c.args.self.now (take n c.args.places.now)) (sym (ap length same ∙ both.0))

pub returns-clause-bound : goal.returns-clause-bound
returns-clause-bound c =
    let both = copied (goal.at.returns-clause-bound c).In_ok-copies in
    omega (arith, both.0, ap length (c.whole.ensures ∙ c.in_ok-block.ensures.ok), c.run_length-count.ensures.bound)

pub returns-then-places-first-clause-bound : goal.returns-then-places-first-clause-bound
returns-then-places-first-clause-bound c = grind (arith, common_steps)

pub bounds-places-0 : goal.bounds-places-0
bounds-places-0 c = grind (arith, common_steps)

pub run_at-requires-clause-first : goal.run_at-requires-clause-first
run_at-requires-clause-first c = grind (arith, common_steps)

pub copies_at-requires : goal.copies_at-requires
copies_at-requires c = grind (arith, common_steps)

pub returns-clause-some : goal.returns-clause-some
returns-clause-some c = grind (arith, common_steps)
