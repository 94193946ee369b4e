-- the widths of the atoms so far
use Rattle.std.proofs.Common.{◌≡◌, length, map, take}
use Rattle.algebra.specs.declared.shapes.Atom.{Atom}
use Rattle.algebra.proofs.conditions.widths_of.Given as goal

abbrev pub invariant-loop-atom : goal.invariant-loop-atom
invariant-loop-atom l = l.made.items ≡ map (λ (a : Atom). length a.kinds) (take l.atom-index l.atoms)
