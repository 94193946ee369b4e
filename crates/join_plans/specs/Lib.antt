-- The words of this crate.
pub mod JoinPlans
pub mod inner
