-- The words of this crate, lowest first.
pub mod OutputText
pub mod TrialText
pub mod Stores
pub mod Laws
pub mod inner
