-- The words of this crate, lowest first.
pub mod Planned
pub mod inner
