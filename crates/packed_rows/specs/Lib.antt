-- The words of this crate, lowest first. Those of private functions stand in `inner`.
pub mod Words
pub mod Emitted
pub mod Unpacked
pub mod Runs
pub mod inner
