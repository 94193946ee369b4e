-- the needed ones of the steps from this one on, the last first
use Rattle.std.proofs.Common.{◌≡◌, drop, map, reverse}
use Rattle.algebra.specs.CheckedTrees.{step_tree_of}
use Rattle.algebra.specs.Meanings.{needed_steps}
use Rattle.plan_rewrite.proofs.rewriting.needed_steps.Given as goal

abbrev pub invariant-loop-i : goal.invariant-loop-i
invariant-loop-i l =
    reverse (map (λ s. step_tree_of s.now) l.needed.items) ≡ needed_steps l.checked.stores (map step_tree_of (drop l.i l.checked.steps))
