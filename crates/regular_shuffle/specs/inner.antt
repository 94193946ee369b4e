-- Words of private functions.
pub mod KeyRoutes
pub mod Broadcasts
pub mod Steps
pub mod StepRuns
pub mod StepScalars
pub mod StepJoins
pub mod Progress
