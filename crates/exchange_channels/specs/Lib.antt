-- The words of this crate, lowest first, and those of the inbox below it.
pub use Rattle.shuffle_core.specs.Inbox
pub mod Messages
pub mod Ports
pub mod Wirings
pub mod Ends
pub mod Numbered
pub mod inner
