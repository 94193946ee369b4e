-- The words of this crate.
pub mod Stages
pub mod Plans
pub mod NotedPlans
pub mod Laws
