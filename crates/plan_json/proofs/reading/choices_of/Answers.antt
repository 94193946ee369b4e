use Rattle.std.proofs.Common.{◌≡◌, ◌∙◌, ◌+◌, ◌++◌, ◌∷◌, [], Some, option_map, take, map, length, length-append, sym, ap, arith, rules}
use Rattle.std.proofs.lemmas.List.{take_more, map-append}
use Rattle.fragmenter.specs.Plans.{choice_tree_of}
use Rattle.plan_json.specs.PlanTexts.{choice_in}
use Rattle.plan_json.proofs.ValueLemmas.{each_more, each_none}
use Rattle.plan_json.proofs.reading.choices_of.Goals as goal

pub returns-in_err-choice-clause-not_plan : goal.returns-in_err-choice-clause-not_plan
returns-in_err-choice-clause-not_plan c =
    let k = c.loop-step.step-index in
    let steps = c.args.steps.now in
    let step = c.step-item.result in
    let more : take (k + 1) steps ≡ take k steps ++ step ∷ [] = search (rules, take_more) in
    let none = sym c.choice_in.ensures ∙ ap (option_map choice_tree_of) c.in_err-choice.ensures.ok_part in
    λ _. each_none choice_in steps k step more none

pub loop-step-preserved : goal.loop-step-preserved
loop-step-preserved c =
    let k = c.loop-step.step-index in
    let steps = c.args.steps.now in
    let step = c.step-item.result in
    let choice = c.in_ok-choice.choice in
    let more : take (k + 1) steps ≡ take k steps ++ step ∷ [] = search (rules, take_more) in
    let is = sym c.choice_in.ensures ∙ ap (option_map choice_tree_of) c.in_ok-choice.ensures.ok_part in
    let pushed = c.in_ok-push.ensures.ok in (
      each_more choice_in steps k step more c.loop-step.invariant.0 is
          ∙ ap Some (sym (ap (map choice_tree_of) pushed ∙ map-append choice_tree_of c.loop-step.choices (choice ∷ []))),
      ap length pushed ∙ omega (arith, length-append c.loop-step.choices (choice ∷ []), c.loop-step.invariant.1),
    )
