pub mod InboxLemmas
pub mod MachineLemmas
pub mod WorkedRows
