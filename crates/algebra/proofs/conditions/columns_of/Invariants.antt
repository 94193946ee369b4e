-- the columns of the variables so far
use Rattle.std.proofs.Common.{◌≡◌, take}
use Rattle.std.specs.List.{flat_map}
use Rattle.algebra.proofs.conditions.columns_of.Given as goal

abbrev pub invariant-loop-variable : goal.invariant-loop-variable
invariant-loop-variable l = l.made.items ≡ flat_map (λ v. v) (take l.variable-index l.variables)
