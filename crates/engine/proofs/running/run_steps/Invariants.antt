use Rattle.std.proofs.Common.{take, drop, map}
use Rattle.algebra.specs.CheckedTrees.{checked_tree_of, step_tree_of}
use Rattle.routed_joins.specs.TermRuns.{AreFair}
use Rattle.run_laws.specs.Rewritten.{needed}
use Rattle.fragmenter.specs.Plans.{lent_plan, rules_by}
use Rattle.engine.specs.inner.Steps.{AreRun}
use Rattle.engine.proofs.running.run_steps.Given as goal

abbrev pub invariant-loop-place : goal.invariant-loop-place
invariant-loop-place g l = record {
  run : AreRun l.settings (rules_by l.settings (lent_plan l.plan)) l.files (checked_tree_of l.checked) (take l.place (needed (checked_tree_of l.checked)))
      (drop l.place (map step_tree_of l.steps)) l.held l.noted g.T.Tap.totals g.T.Tap.tag l.fn.taps.items l.taps.items;
  fair : AreFair g.T.Tap.totals g.T.Tap.tag l.fn.taps.items l.taps.items;
}
