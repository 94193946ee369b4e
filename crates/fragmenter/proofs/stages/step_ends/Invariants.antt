use Rattle.std.proofs.Common.{◌≡◌, map, Some}
use Rattle.std.specs.List.{range_with_len}
use Rattle.algebra.specs.declared.notes.Exchange.TheVariants as exchange
use Rattle.fragmenter.proofs.stages.step_ends.Given as goal

abbrev pub invariant-loop-place : goal.invariant-loop-place
invariant-loop-place l = l.ends.items ≡ map Some (map exchange.Rs (range_with_len 2 l.place))
