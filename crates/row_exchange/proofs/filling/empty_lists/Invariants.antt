use Rattle.std.proofs.Common.{◌≡◌, [], map, replicate}
use Rattle.row_exchange.proofs.filling.empty_lists.Given as goal

abbrev pub invariant-loop-list : goal.invariant-loop-list
invariant-loop-list l = map (λ l. l.items) l.lists.items ≡ replicate l._list []
