use Rattle.std.proofs.Common.{◌≡◌, map, take}
use Rattle.serde_json.specs.View.{view}
use Rattle.fragmenter.specs.Plans.{choice_tree_of}
use Rattle.plan_json.specs.PlanTexts.{choice_data}
use Rattle.plan_json.proofs.writing.value_of_choices.Given as goal

abbrev pub invariant-loop-choice : goal.invariant-loop-choice
invariant-loop-choice l =
    map view l.steps.items ≡ map choice_data (map choice_tree_of (take l.choice-index l.choices))
