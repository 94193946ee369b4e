-- The words of this crate.
pub mod Faults
pub mod Tokens
pub mod inner
pub mod Slices
