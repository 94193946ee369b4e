-- The words of this crate, lowest first.
pub mod PlanTexts
pub mod Laws
