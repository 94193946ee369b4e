-- there is an intake for each receiver so far, of its cell, which has taken nothing
use Rattle.std.proofs.Common.{◌≡◌, ℕ, ◌<◌, [], length, get_or, All}
use Rattle.exchange_channels.specs.Wirings.{IntakeState, IsIntakeOf}
use Rattle.exchange_channels.proofs.wiring.make_intakes.Given as goal

abbrev pub invariant-loop-port : goal.invariant-loop-port
invariant-loop-port l = record {
  count : length l.intakes ≡ length l.yielded;
  of_wiring : All (IsIntakeOf l.keep) l.intakes;
  in_order : (k : ℕ) (d : IntakeState) → k < length l.intakes → (get_or l.intakes k d).cell ≡ k;
  nothing_taken : All (λ (intake : IntakeState). intake.got ≡ []) l.intakes;
}
