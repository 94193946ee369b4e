use Rattle.std.proofs.Common.{◌≡◌, Some, map, take}
use Rattle.rel_base.specs.Limits.{most_workers}
use Rattle.serde_json.specs.View.{view}
use Rattle.share_chooser.specs.Shares.{shares_of}
use Rattle.plan_json.specs.PlanTexts.{each_of, number_in}
use Rattle.plan_json.proofs.steps.shares_of.Given as goal

abbrev pub invariant-loop-value : goal.invariant-loop-value
invariant-loop-value l =
    (each_of (number_in 1 most_workers) (map view (take l.value-index l.values)) ≡ Some (shares_of l.shares))
    × (l.shares.count ≡ l.value-index)
