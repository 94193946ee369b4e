use Rattle.std.proofs.Common.{◌≡◌, map, take}
use Rattle.algebra.specs.CheckedTrees.{step_tree_of}
use Rattle.fragmenter.specs.Stages.{stages_of}
use Rattle.fragmenter.proofs.stages.fragment.Given as goal

abbrev pub invariant-loop-place : goal.invariant-loop-place
invariant-loop-place l = l.stages ≡ stages_of l.shuffle (map step_tree_of (take l.place l.step-items))
