-- the copies so far are the rows so far
use Rattle.std.proofs.Common.{◌≡◌, ◌-◌, take, map}
use Rattle.rel_base.specs.Picks.{items_at}
use Rattle.rel_base.proofs.flat_rows.FlatRows.copies_at.Given as goal

abbrev pub invariant-loop-number : goal.invariant-loop-number
invariant-loop-number l = l.copies ≡ items_at l.self (map (λ n. n - l.first) (take l.number-index l.numbers))
