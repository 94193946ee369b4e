-- the loads of the operands so far
use Rattle.std.proofs.Common.{◌≡◌, ◌++◌, map}
use Rattle.std.specs.List.{flat_map}
use Rattle.myrial_meaning.specs.Fetches.{loads_of}
use Rattle.myrial_types.proofs.loads.push_loads.Given as goal

abbrev pub invariant-loop-operand : goal.invariant-loop-operand
invariant-loop-operand l = l.into.items ≡ l.initial.into.items ++ flat_map loads_of (map (λ o. o.now) l.yielded)
