use Rattle.std.proofs.Common.{◌+◌, ◌-◌, ◌<◌, ◌≤◌, length, take, All}
use Rattle.rel_base.proofs.shared_rows.run_length.Given as goal

abbrev pub invariant-loop-count : goal.invariant-loop-count
invariant-loop-count l =
    (l.count ≤ length l.places) × All (λ p. l.start ≤ p) (take l.count l.places) × All (λ p. p < l.start + l.len) (take l.count l.places)

abbrev pub decreases-loop-count : goal.decreases-loop-count
decreases-loop-count l = length l.places - l.count
