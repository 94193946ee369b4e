-- Messages and what they hold.
--
--   sender_of, is_end                 the sender of a message; whether it is an end mark
--   batch_of, end_of                  the message of a batch; the end mark of a sender
--   batches_of messages               the batches, in order
--   drained_of messages               the batches, each with its sender, in order
--   rows_of messages                  how many rows the batches have in all
--   rows_of_atom atom batches         the rows of an atom in batches, in order
--   drained_rows atom drained         the rows of an atom in what was drained, in order
use Rattle.std.specs.Prelude.{ℕ, Bool, List, [], ◌==◌, if◌then◌else◌, length, is_none, Option, Some, None, filter_map, option_map, sum_by}
use Rattle.std.specs.List.{flat_map}
use Rattle.rel_base.specs.declared.values.Value.{Value}
use Rattle.exchange_channels.specs.declared.messages.Batch.{Batch}
use Rattle.exchange_channels.specs.declared.messages.Message.{Message}

-- the sender of a message
abbrev pub sender_of : Message → ℕ
sender_of message = message.sender

-- whether a message is an end mark: it has no batch
abbrev pub is_end : Message → Bool
is_end message = is_none message.batch

-- the message in which a sender sends a batch
abbrev pub batch_of : ℕ → Batch → Message
batch_of sender batch = record { sender = sender; batch = Some batch }

-- the end mark of a sender
abbrev pub end_of : ℕ → Message
end_of sender = record { sender = sender; batch = None }

-- the batches of the messages, in order
abbrev pub batches_of : List Message → List Batch
batches_of messages = filter_map (λ message. message.batch) messages

-- the batches of the messages, each with its sender, in order
abbrev pub drained_of : List Message → List (ℕ × Batch)
drained_of messages =
    filter_map (λ message. option_map (λ batch. (message.sender, batch)) message.batch) messages

-- how many rows a message has
abbrev pub row_count : Option Batch → ℕ
row_count None = 0
row_count (Some batch) = length batch.rows

-- how many rows the messages have in all
abbrev pub rows_of : List Message → ℕ
rows_of messages = sum_by (λ message. row_count message.batch) messages

-- the rows of a batch, where it is of this atom
abbrev pub batch_rows : ℕ → Batch → List (List Value)
batch_rows atom batch = if batch.atom == atom then batch.rows else []

-- the rows of an atom in the batches, in order
abbrev pub rows_of_atom : ℕ → List Batch → List (List Value)
rows_of_atom atom batches = flat_map (batch_rows atom) batches

-- the rows of an atom in what was drained, in order
abbrev pub drained_rows : ℕ → List (ℕ × Batch) → List (List Value)
drained_rows atom drained = flat_map (λ taken. batch_rows atom taken.1) drained
