-- The words of this crate, lowest first.
pub mod Environments
pub mod Meaning
pub mod Permuted
pub mod SortedFiles
pub mod Needed
pub mod Faults
pub mod Runnable
pub mod Fetches
pub mod Evaluating
pub mod inner
