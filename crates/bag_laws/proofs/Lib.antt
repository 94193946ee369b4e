-- Proofs of the laws, lowest first.
pub mod AnyOrder
pub mod RowPermutations
pub mod GroupPermutations
pub mod ColumnLemmas
pub mod PartialLemmas
pub mod FittingLemmas
pub mod TypedGroupLemmas
