-- The words of this crate.
pub mod Outside
pub mod Shelves
pub mod Sinks
pub mod Taps
pub mod InMemory
pub mod Adapters
pub mod Refusals
