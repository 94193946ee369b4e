-- The words of this crate, lowest first. Those of private functions stand in `inner`.
pub mod WordTables
pub mod Words
pub mod Encodings
pub mod inner
