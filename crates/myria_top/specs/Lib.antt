-- The words of this crate, lowest first.
pub mod FileNames
pub mod Outcomes
pub mod Verdicts
pub mod Reading
pub mod Scripts
pub mod Requests
pub mod Plans
pub mod Printed
pub mod Runs
pub mod EachFile
pub mod Headline
pub mod TrialAnswers
pub mod OneAnswer
pub mod Reducing
pub mod Exports
pub mod Moves
pub mod inner
