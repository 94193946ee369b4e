use Rattle.std.proofs.Common.{◌≤◌, ◌-◌, [], ◌∷◌, length, take}
use Rattle.row_exchange.specs.inner.Shipments.{AddsAtom}
use Rattle.row_exchange.proofs.filling.fill_for_one.Given as goal

abbrev pub invariant-loop-from : goal.invariant-loop-from
invariant-loop-from l =
    record {
      within : l.from ≤ length l.rows;
      added : AddsAtom (λ _. l.cell ∷ []) l.size.workers l.atoms l.size.batch l.atom (take l.from l.rows) l.fn.filled.items l.filled.items;
    }

abbrev pub decreases-loop-from : goal.decreases-loop-from
decreases-loop-from l = length l.rows - l.from
