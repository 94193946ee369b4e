-- what is picked so far, and what is left to pick of the stretches behind
use Rattle.std.proofs.Common.{◌≡◌, ◌++◌, ◌<◌, drop}
use Rattle.rel_base.specs.Picks.{every_nth, joined}
use Rattle.rel_base.proofs.shared_rows.SharedRows.every_nth.Given as goal

abbrev pub invariant-loop-stretch : goal.invariant-loop-stretch
invariant-loop-stretch l =
    (every_nth l.self l.step l.start ≡ l.picked ++ every_nth (joined (drop l.stretch-index l.stretch-items)) l.step l.next)
    × (l.next < l.step)
