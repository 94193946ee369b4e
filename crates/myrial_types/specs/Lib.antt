-- The words of this crate, lowest first.
pub mod Faults
pub mod Fetching
pub mod Resolving
pub mod Kinds
pub mod Checking
pub mod Laws
pub mod inner
