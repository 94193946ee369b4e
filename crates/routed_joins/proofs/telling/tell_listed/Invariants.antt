use Rattle.routed_joins.specs.Listings.{count_at, IsListedAt}
use Rattle.routed_joins.proofs.telling.tell_listed.Given as goal

abbrev pub invariant-loop-w : goal.invariant-loop-w
invariant-loop-w g l = IsListedAt g.T.Tap.totals g.T.Tap.tag l.w (count_at l.rows-items) l.initial.taps.items l.taps.items
