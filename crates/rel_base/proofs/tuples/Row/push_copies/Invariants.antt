-- the copies so far stand behind what the row had
use Rattle.std.proofs.Common.{◌≡◌, ◌++◌, take}
use Rattle.rel_base.proofs.tuples.Row.push_copies.Given as goal

abbrev pub invariant-loop-value : goal.invariant-loop-value
invariant-loop-value l = l.self ≡ l.initial.self ++ take l.value-index l.values
