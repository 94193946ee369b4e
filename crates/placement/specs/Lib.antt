-- The words of this crate, lowest first.
pub mod Choices
pub mod Destinations
pub mod Layouts
pub mod Exchanges
pub mod Plans
pub mod Runs
pub mod Stores
pub mod Laws
pub mod Receiving
