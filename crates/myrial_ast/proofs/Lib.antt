mod WorkedRows
pub mod ClassLemmas
