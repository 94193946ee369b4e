-- the atoms of the items so far
use Rattle.std.proofs.Common.{◌≡◌, map, take}
use Rattle.algebra.specs.Trees.{atom_tree_of}
use Rattle.myrial_types.specs.Resolving.{kinds_of_items}
use Rattle.myrial_types.specs.inner.Terms.{bare_atoms}
use Rattle.myrial_types.proofs.terms.atoms_of.Given as goal

abbrev pub invariant-loop-item : goal.invariant-loop-item
invariant-loop-item l = map atom_tree_of l.atoms ≡ bare_atoms (kinds_of_items (take l.item-index l.items))
