-- The words of this crate, lowest first.
pub mod Scopes
pub mod Meanings
pub mod Emits
pub mod Resolutions
pub mod inner
