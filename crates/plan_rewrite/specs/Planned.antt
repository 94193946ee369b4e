-- The script that a rewritten script is.
--
--   planned_tree_of planned            its steps and stores, seen as a checked script
--   is_last_use number stores steps    whether a result is taken by the first of these steps and never again
use Rattle.std.specs.Prelude.{ℕ, Bool, false, not, ◌&&◌, List, [], ◌∷◌, map}
use Rattle.algebra.specs.CheckedTrees.{step_tree_of}
use Rattle.algebra.specs.declared.terms.StoreStep.{StoreStep}
use Rattle.algebra.specs.Meanings.{uses, is_used}
use Rattle.algebra.specs.Trees.{StepTree, CheckedTree}
use Rattle.plan_rewrite.specs.declared.rewriting.Planned.{Planned}

-- the steps and stores of a rewritten script, seen as a checked script
abbrev pub planned_tree_of : Planned → CheckedTree
planned_tree_of p = record { steps = map step_tree_of p.steps; stores = p.stores }

-- whether the first of these steps has the result of this statement as a source, but no later one has and no store stores it
abbrev pub is_last_use : ℕ → List StoreStep → List StepTree → Bool
is_last_use number stores [] = false
is_last_use number stores (s ∷ later) = uses number s && not (is_used number stores later)
