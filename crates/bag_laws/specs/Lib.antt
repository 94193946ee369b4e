-- The words of this crate, lowest first.
pub mod Permuted
pub mod OrderLaws
pub mod PartialLaws
