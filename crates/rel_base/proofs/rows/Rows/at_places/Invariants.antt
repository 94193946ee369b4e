use Rattle.std.proofs.Common.{◌≡◌, ◌-◌, ◌≤◌, length, take}
use Rattle.rel_base.specs.Picks.{items_at}
use Rattle.rel_base.proofs.rows.Rows.at_places.Given as goal

abbrev pub invariant-loop-done : goal.invariant-loop-done
invariant-loop-done l =
    (l.picked ≡ items_at l.self (take l.done l.places)) × (length l.picked ≡ l.done) × (l.done ≤ length l.places)

abbrev pub decreases-loop-done : goal.decreases-loop-done
decreases-loop-done l = length l.places - l.done
