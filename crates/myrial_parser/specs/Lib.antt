-- The words of this crate, lowest first.
pub mod Faults
pub mod Symbols
pub mod Terminals
pub mod Phrases
pub mod Grammar
pub mod Pieces
pub mod inner
