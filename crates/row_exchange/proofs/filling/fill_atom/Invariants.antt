use Rattle.std.proofs.Common.{◌≡◌, take, drop}
use Rattle.row_exchange.specs.inner.Pairs.{rows_to, pairs_of}
use Rattle.row_exchange.specs.inner.Shipments.{Gathers, filling_of}
use Rattle.row_exchange.proofs.filling.fill_atom.Given as goal

abbrev pub invariant-loop-row : goal.invariant-loop-row
invariant-loop-row g l =
    (goal.iterator-loop-row g).can_next l.row-iterator × (goal.iterator-loop-row g).is_finite l.row-iterator
    × (drop l.number l.rows ≡ l.row-iterator)
    × Gathers (λ w. rows_to (g.W.Route.cells l.route l.atom) w (take l.number l.rows)) (pairs_of (g.W.Route.cells l.route l.atom) (take l.number l.rows))
    (filling_of l.atom l.atoms l.rows l.fn.size.batch l.fn.size.workers l.fn.filled.items) l.filling
