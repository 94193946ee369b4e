use Rattle.std.proofs.Common.{◌≡◌, [], replicate}
use Rattle.row_exchange.proofs.receiving.empty_rows.Given as goal

abbrev pub invariant-loop-list : goal.invariant-loop-list
invariant-loop-list l = l.lists.items ≡ replicate l._list []
