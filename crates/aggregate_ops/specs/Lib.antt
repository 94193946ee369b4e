-- The words of this crate, lowest first.
pub mod Columns
pub mod Picks
pub mod Keyed
pub mod Forms
pub mod Laws
pub mod inner
