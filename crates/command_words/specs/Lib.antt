-- The words of this crate.
pub mod Commands
pub mod Faults
pub mod Limits
pub mod Modes
pub mod Texts
pub mod Requests
