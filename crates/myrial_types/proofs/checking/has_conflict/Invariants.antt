-- the loads so far contradict none before them
use Rattle.std.proofs.Common.{◌≡◌, take, drop}
use Rattle.myrial_types.specs.Fetching.{has_conflict}
use Rattle.myrial_types.proofs.checking.has_conflict.Given as goal

abbrev pub invariant-loop-i : goal.invariant-loop-i
invariant-loop-i l =
    has_conflict (take l.earlier l.loads) (drop l.earlier l.loads) ≡ has_conflict (take l.i l.loads) (drop l.i l.loads)
