-- Lemmas of this crate, lowest first, and what receipts and taps show of a worked exchange.
pub mod ListLemmas
pub mod FaultLemmas
pub mod JoinLemmas
pub mod ReducingLemmas
pub mod GroupLemmas
pub mod PickLemmas
pub mod TermLemmas
pub mod UsedLemmas
pub mod RunLemmas
mod WorkedRows
