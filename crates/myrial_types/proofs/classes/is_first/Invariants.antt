-- none of the columns so far has the leader
use Rattle.std.proofs.Common.{◌≡◌, ◌==◌, ℕ, ◌<◌, false}
use Rattle.std.specs.Prelude.{slice_index}
use Rattle.myrial_types.proofs.classes.is_first.Given as goal

abbrev pub invariant-loop-place : goal.invariant-loop-place
invariant-loop-place l = (d : ℕ) → d < l.place → (slice_index l.leaders d == slice_index l.leaders l.column) ≡ false
