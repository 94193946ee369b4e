-- Lemmas of plans as text, and worked texts.
pub mod ValueLemmas
pub mod WritingLemmas
pub mod LineFeeds
pub mod ReadBackLemmas
pub mod WorkedRows
