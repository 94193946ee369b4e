use Rattle.std.proofs.Common.{◌≡◌, ◌++◌, ◌≤◌, reverse, length}
use Rattle.regular_shuffle.specs.inner.Broadcasts.{own_in}
use Rattle.regular_shuffle.proofs.moving.with_own.Given as goal

abbrev pub invariant-loop-parts : goal.invariant-loop-parts
invariant-loop-parts l = record {
  own : own_in l.spread l.stays l.given ++ reverse l.backwards.items ≡ own_in l.spread l.stays l.fn.given;
  each : length l.given ≤ length l.spread;
}

abbrev pub decreases-loop-parts : goal.decreases-loop-parts
decreases-loop-parts l = length l.given
