-- The words of this crate.
pub mod Trials
pub mod TrialScript
