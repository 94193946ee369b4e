-- The ends of a cell's channel.
--
--   Place               which channel it is
--   PortState           what contracts see of an end: its channel, and what its pass knows
use Rattle.atomic_table.specs.declared.badge.Badge.{Badge}
use Rattle.atomic_table.specs.Seated.{TableId}
use Rattle.crossbeam_channel.specs.declared.flavors.array.Key.{Key}
use Rattle.crossbeam_channel.specs.declared.flavors.array.Doing.{Doing}
use Rattle.crossbeam_channel.specs.declared.flavors.array.Rows.{Rows}
use Rattle.exchange_channels.specs.declared.messages.Message.{Message}
use Rattle.exchange_channels.specs.declared.rule.View.{View}

-- which channel it is: what no other channel shares with it
pub record Place : Type 0 where
  pub table : TableId
  pub key : Badge (Key Message)

-- the place of a channel
abbrev pub place_of : {Q M L A : Type 0}
    → Rows (Badge (Key Message)) (Doing Message View) Q M (Key Message) L A → Place
place_of channel =
    record { table = channel.stamps.shared.table_id; key = channel.stamps.shared.key }

-- an end of a channel, and what its pass knows
pub record PortState : Type 0 where
  pub place : Place
  pub knows : View
