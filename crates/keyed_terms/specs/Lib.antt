-- The words of this crate.
pub mod KeyedTerms
pub mod inner
