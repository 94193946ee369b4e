-- The words of this crate, lowest first.
pub mod Numbered
pub mod Faults
pub mod Fields
pub mod Files
pub mod RecordTexts
pub mod RoundTrip
pub mod inner
