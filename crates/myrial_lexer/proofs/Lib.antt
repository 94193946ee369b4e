pub mod DigitLemmas
pub mod CutLemmas
pub mod FrontLemmas
pub mod SliceLemmas
pub mod WorkedRows
