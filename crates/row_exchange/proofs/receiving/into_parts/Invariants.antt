use Rattle.std.proofs.Common.{◌≡◌}
use Rattle.row_exchange.proofs.receiving.into_parts.Given as goal

abbrev pub invariant-loop-rows : goal.invariant-loop-rows
invariant-loop-rows l = l.parts ≡ l.yielded
