use Rattle.std.proofs.Common.{◌≡◌, ◌∙◌, ◌++◌, ◌-◌, ap, length, length-append, map, map-id, take, drop, length-drop, arith}
use Rattle.std.proofs.lemmas.List.{take_all}
use Rattle.rel_base.specs.Picks.{items_at}
use Rattle.rel_base.proofs.PickLemmas.{length-items_at, map-agree}
use Rattle.rel_base.proofs.StartLemmas.{items_at-more}
use Rattle.rel_base.proofs.rows.Rows.at_places.Goals as goal
use Rattle.rel_base.proofs.rows.Rows.at_places.Goals.{In_ok-at_numbers}

pub loop-done-preserved : goal.loop-done-preserved
loop-done-preserved c =
    let self = c.args.self.now in
    let ps = c.args.places.now in
    let inv = c.loop-done.invariant in
    let run = c.in_ok-run.run' in
    let pushed : c.push.new.self ≡ c.loop-done.picked ++ run = c.in_ok-push.ensures.ok in
    let rest : take (length ps - c.loop-done.done) (drop c.loop-done.done ps) ≡ drop c.loop-done.done ps =
    take_all _ _ (omega (arith, length-drop c.loop-done.done ps)) in
    let taken = c.in_ok-run.ensures.run ∙ ap (λ ns. items_at self (take (length run) ns)) rest in
    let more = items_at-more self ps c.loop-done.done (length run) in (
      pushed ∙ ap (λ xs. xs ++ run) inv.0 ∙ ap (λ xs. items_at self (take c.loop-done.done ps) ++ xs) taken ∙ more
          ∙ ap (λ n. items_at self (take n ps)) (omega (arith, c.len.ensures)),
      omega (arith, ap length pushed, length-append c.loop-done.picked run, inv.1, c.len.ensures),
      omega (arith, c.in_ok-run.ensures.bound, ap length rest, c.len.ensures, inv.2, length-drop c.loop-done.done ps),
    )

-- where all rows stand in one stretch, the places are the numbers in it
picked : (c : In_ok-at_numbers) → c.in_ok-at_numbers.field-0 ≡ items_at c.args.self.now c.args.places.now
picked c =
    let self = c.args.self.now in
    let ps = c.args.places.now in
    let here : c.in-Some.only.now ≡ self = c.in-Some.ensures in
    let numbers : map (λ n. n - 0) ps ≡ ps = map-agree (λ n. n - 0) (λ n. n) ps (λ k d low. omega arith) ∙ map-id ps in
    c.in_ok-at_numbers.ensures ∙ ap (λ xs. items_at xs (map (λ n. n - 0) ps)) here ∙ ap (items_at self) numbers

pub of_stretch-requires : goal.of_stretch-requires
of_stretch-requires c =
    let whole = picked (goal.at.of_stretch-requires c).In_ok-at_numbers in
    omega (arith, ap length whole, length-items_at c.args.self.now c.args.places.now c.requires.within, c.requires.room)

pub returns-in-Some : goal.returns-in-Some
returns-in-Some c = c.in_ok-made.ensures ∙ picked (goal.at.returns-in-Some c).In_ok-at_numbers
