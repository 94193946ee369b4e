-- Laws of what the crate promises.
pub mod CollectLemmas
pub mod CutLemmas
pub mod MergeLemmas
pub mod PackingLemmas
pub mod SortingLemmas
pub mod WorkedRows
