pub mod ScopeLemmas
pub mod MeaningLemmas
mod WorkedRows
