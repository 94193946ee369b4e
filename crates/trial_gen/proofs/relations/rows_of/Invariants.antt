use Rattle.std.proofs.Common.{◌≡◌, ◌+◌, ◌*◌, map}
use Rattle.std.specs.List.{range_with_len}
use Rattle.trial_gen.specs.Trials.{state_after, trial_row}
use Rattle.trial_gen.proofs.relations.rows_of.Given as goal

abbrev pub invariant-loop-place : goal.invariant-loop-place
invariant-loop-place l =
    (l.rows ≡ map (trial_row l.size l.number) (range_with_len 0 l._place))
    × (l.state ≡ state_after (2 * l._place) (4 * l.size + l.number))
