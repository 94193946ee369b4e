-- The words of this crate, lowest first.
pub mod Runs
pub mod inner
