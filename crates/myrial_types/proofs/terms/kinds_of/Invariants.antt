-- the types of the columns so far
use Rattle.std.proofs.Common.{◌≡◌, length, take}
use Rattle.algebra.specs.Conditions.{kinds_of_columns}
use Rattle.myrial_types.proofs.terms.kinds_of.Given as goal

abbrev pub invariant-loop-column : goal.invariant-loop-column
invariant-loop-column l = (l.kinds ≡ kinds_of_columns (take l.column-index l.column-items)) × (length l.kinds ≡ l.column-index)
