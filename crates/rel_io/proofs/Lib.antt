-- The lemmas of this crate, and its worked rows.
pub mod OutsideLemmas
pub mod WorkedRows
