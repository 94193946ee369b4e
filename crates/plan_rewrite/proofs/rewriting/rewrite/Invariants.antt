-- the needed steps behind this place, pushed, the last first
use Rattle.std.proofs.Common.{◌≡◌, drop, map, reverse}
use Rattle.algebra.specs.CheckedTrees.{step_tree_of}
use Rattle.plan_rewrite.specs.inner.Steps.{pushed_step}
use Rattle.plan_rewrite.proofs.rewriting.rewrite.Given as goal

abbrev pub invariant-loop-i : goal.invariant-loop-i
invariant-loop-i l = map step_tree_of l.steps ≡ map pushed_step (reverse (map (λ s. step_tree_of s.now) (drop l.i l.needed.items)))
