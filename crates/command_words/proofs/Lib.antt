-- Laws of the words, and worked rows.
pub mod CommandLemmas
pub mod MatchLemmas
pub mod NumberLemmas
pub mod RequestLemmas
pub mod SettingsLemmas
pub mod WorkedRows
