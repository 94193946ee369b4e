pub mod BoolLemmas
pub mod NeededLemmas
pub mod ListingLemmas
pub mod BoundLemmas
pub mod CombinationLemmas
pub mod ComprehensionLemmas
pub mod TypedLemmas
pub mod EnvironmentLemmas
pub mod AgreementLemmas
pub mod MeaningPermutations
pub mod FaultPermutations
pub mod StatementLemmas
pub mod StageLemmas
pub mod ColumnLemmas
pub mod FetchLemmas
mod WorkedRows
