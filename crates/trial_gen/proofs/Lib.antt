-- Laws of the rows of a trial, and worked rows.
pub mod TrialLemmas
pub mod WorkedRows
