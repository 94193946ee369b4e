-- Laws of what the tests ask.
pub mod NumberLemmas
pub mod PathLemmas
pub mod PositiveLemmas
