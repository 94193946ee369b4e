use Rattle.std.proofs.Common.{◌≡◌, Some, length, map, take}
use Rattle.serde_json.specs.View.{view}
use Rattle.fragmenter.specs.Plans.{choice_tree_of}
use Rattle.plan_json.specs.PlanTexts.{choice_in, each_of}
use Rattle.plan_json.proofs.reading.choices_of.Given as goal

abbrev pub invariant-loop-step : goal.invariant-loop-step
invariant-loop-step l =
    (each_of choice_in (map view (take l.step-index l.steps)) ≡ Some (map choice_tree_of l.choices))
    × (length l.choices ≡ l.step-index)
