-- The words of this crate, lowest first, and those of the channels below it.
pub use Rattle.exchange_channels.specs.Messages
pub use Rattle.exchange_channels.specs.Wirings
pub mod Routes
pub mod Moves
pub mod Exchanges
pub mod inner
