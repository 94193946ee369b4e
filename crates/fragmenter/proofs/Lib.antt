-- Laws of stages, and worked stages and plans.
pub mod StageLemmas
pub mod WorkedRows
pub mod WorkedPlans
pub mod NotedLemmas
pub mod PlanLemmas
pub mod ExchangeLemmas
