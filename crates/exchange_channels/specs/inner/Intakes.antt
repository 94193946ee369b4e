-- What an intake keeps.
use Rattle.std.specs.Prelude.{◌≡◌, ℕ, ◌<◌, Bool, true, false, List, [], length, Result, replicate, Option, None, Some, IfOk, slice_index_or}
use Rattle.std.specs.List.{list_any}
use Rattle.rel_base.specs.declared.failure.Memory.{Memory}
use Rattle.rel_io.specs.Taps.{with_got}
use Rattle.rel_io.specs.declared.taps.Totals.{Totals}
use Rattle.shuffle_core.specs.Inbox.{of_sender}
use Rattle.exchange_channels.specs.declared.messages.Batch.{Batch}
use Rattle.exchange_channels.specs.declared.messages.Message.{Message}
use Rattle.exchange_channels.specs.Messages.{sender_of, is_end, drained_of}
use Rattle.exchange_channels.specs.Ports.{PortState}
use Rattle.exchange_channels.specs.Wirings.{IntakeState}
use Rattle.exchange_channels.specs.inner.CellRule.{with_taken}

-- the intake of a cell whose end is this port
abbrev pub intake_of : ℕ → ℕ → PortState → IntakeState
intake_of senders cell port =
    record { place = port.place; senders = senders; cell = cell; got = port.knows.got }

-- an intake has taken nothing, and noted no end mark
pub record IsIntake (senders : ℕ) (port : PortState) (ended : List Bool) : Type 0 where
  pub nothing_taken : port.knows.got ≡ []
  pub no_end_noted : ended ≡ replicate senders false

-- what was taken so far, the senders whose end marks were noted, and the batches that were kept, or that memory was refused
pub record TakingState : Type 0 where
  pub port : PortState
  pub ended : List Bool
  pub drained : Result (List (ℕ × Batch)) Memory

-- an end mark is noted only where it was taken, and the batches that were kept are all that were taken
pub record IsTaking (t : TakingState) : Type 0 where
  pub ends_taken : (s : ℕ) → s < length t.ended → slice_index_or t.ended s false ≡ true
      → list_any is_end (of_sender sender_of s t.port.knows.got) ≡ true
  pub all_kept : IfOk t.drained (λ drained. drained ≡ drained_of t.port.knows.got)

-- the sums of a tap once it was told the rows of a batch; an end mark tells it nothing
abbrev pub totals_after : Totals → Option Batch → Totals
totals_after sums None = sums
totals_after sums (Some batch) = with_got sums (length batch.rows)

-- a message was taken, and the tap was told its rows
pub record TakesMessage (before after : TakingState) (sums sums' : Totals) : Type 0 where
  pub message : Message
  pub taken : after.port.knows ≡ with_taken before.port.knows message
  pub counted : sums' ≡ totals_after sums message.batch
