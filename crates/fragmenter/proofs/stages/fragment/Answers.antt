use Rattle.std.proofs.Common.{◌≡◌, ◌∙◌, ◌+◌, ◌≤◌, ◌++◌, ◌∷◌, [], map, take, length, ap, sym, arith, rules}
use Rattle.std.proofs.lemmas.List.{take_more, map-append, length-map, length-take-le}
use Rattle.algebra.specs.CheckedTrees.{step_tree_of}
use Rattle.fragmenter.specs.Stages.{stages_at, stages_of}
use Rattle.fragmenter.proofs.StageLemmas.{stages_more}
use Rattle.fragmenter.proofs.stages.fragment.Goals as goal

pub loop-place-preserved : goal.loop-place-preserved
loop-place-preserved c =
    let kind = c.args.shuffle in
    let items = c.as_slice-step-items.result.now in
    let place = c.loop-place.place in
    let step = c.step-item.result in
    let done = map step_tree_of (take place items) in
    let within : place ≤ length items = omega arith in
    let more : take (place + 1) items ≡ take place items ++ step ∷ [] = search (rules, take_more) in
    let long : length done ≡ place = length-map (take place items) step_tree_of ∙ length-take-le place items within in
    c.in_ok-push_stages.ensures
    ∙ ap (λ stages. stages ++ stages_at step.statement place c.as_slice.result.now) c.loop-place.invariant
    ∙ ap (λ ends. stages_of kind done ++ stages_at step.statement place ends) (c.as_slice.ensures.value ∙ c.in_ok-ends.ensures)
    ∙ sym (stages_more kind done (step_tree_of step) place long)
    ∙ ap (stages_of kind) (sym (map-append step_tree_of (take place items) (step ∷ [])) ∙ ap (map step_tree_of) (sym more))
