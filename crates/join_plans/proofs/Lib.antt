-- Lemmas of this crate, lowest first.
pub mod SpanLemmas
pub mod CountLemmas
pub mod ChoiceLemmas
pub mod LineLemmas
pub mod WorkedRows
