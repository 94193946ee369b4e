pub mod PieceLemmas
pub mod BlockLemmas
pub mod StoreLemmas
mod TrialLemmas
mod LawLemmas
mod WorkedRows
