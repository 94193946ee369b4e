use Rattle.std.proofs.Common.{◌≡◌, map, take}
use Rattle.algebra.specs.CheckedTrees.{checked_tree_of}
use Rattle.engine.specs.inner.Steps.{held_store}
use Rattle.engine.proofs.running.stored_of.Given as goal

abbrev pub invariant-loop-store : goal.invariant-loop-store
invariant-loop-store l =
    l.stored ≡ map (held_store l.files (checked_tree_of l.checked) l.held) (take l.store-index l.checked.stores)
