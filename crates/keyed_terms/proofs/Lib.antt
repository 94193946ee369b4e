pub mod MakingLemmas
pub mod MoveLemmas
pub mod SpreadLemmas
pub mod ConcludeLemmas
pub mod BagLemmas
pub mod MeetLemmas
pub mod GroupLemmas
