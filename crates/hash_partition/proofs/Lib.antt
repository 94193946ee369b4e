pub mod CellLemmas
pub mod KeyLemmas
pub mod WorkedRows
