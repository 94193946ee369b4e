-- The words of this crate, lowest first.
pub mod Trees
pub mod Operands
pub mod Loads
pub mod Scalars
pub mod ScalarTrees
pub mod Combinations
pub mod Bags
pub mod Groups
pub mod Partials
pub mod Classes
pub mod KeptRows
pub mod JoinTrees
pub mod ReducedRows
pub mod CandidateFaults
