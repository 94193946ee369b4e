-- The words of this crate, lowest first.
pub mod Values
pub mod Rewritten
pub mod Scripts
pub mod Held
pub mod SameExchanges
pub mod BagRuns
pub mod KeptRuns
