use Rattle.std.proofs.Common.{◌≡◌, ◌<◌, ℕ, []}
use Rattle.row_exchange.specs.inner.Shipments.{Gathers, no_more, pending_for}
use Rattle.row_exchange.proofs.filling.Filling.flush_all.Given as goal

abbrev pub invariant-loop-cell : goal.invariant-loop-cell
invariant-loop-cell l = Gathers no_more 0 l.fn.self l.self × ((k : ℕ) → k < l.cell → pending_for l.self k ≡ [])
