use Rattle.std.proofs.Common.{◌≡◌, map, drop}
use Rattle.algebra.specs.CheckedTrees.{step_tree_of}
use Rattle.fragmenter.specs.Plans.{choice_tree_of, first_misfit, joins_of}
use Rattle.fragmenter.proofs.fitting.first_misfit.Given as goal

abbrev pub invariant-loop-step : goal.invariant-loop-step
invariant-loop-step l =
    first_misfit l.workers (joins_of (map step_tree_of l.steps)) (map choice_tree_of l.choices)
    ≡ first_misfit l.workers (joins_of (map step_tree_of (drop l.step-index l.steps))) (map choice_tree_of l.left)
