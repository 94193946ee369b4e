mod FetchingLemmas
mod NamesLemmas
mod KindLemmas
mod TypingLemmas
mod TermLemmas
mod RangeLemmas
mod ReadingLemmas
mod ClassesLemmas
mod AssignLemmas
mod ComprehensionLemmas
mod CheckingLemmas
mod ResolvedLemmas
pub mod LoadLemmas
pub mod FollowLemmas
mod ValueLemmas
mod MeaningLemmas
pub mod DefinedLemmas
mod UsedLemmas
mod FaultLemmas
mod ScalarKindLemmas
mod FormedLemmas
mod VariableLemmas
mod LimitLemmas
mod WorkedRows
