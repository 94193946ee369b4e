pub mod TextLemmas
pub mod WorkedRows
