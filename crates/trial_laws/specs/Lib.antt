-- The words of this crate.
pub mod TrialTrees
pub mod TrialSteps
