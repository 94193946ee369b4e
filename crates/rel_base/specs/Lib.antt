-- The words of this crate, lowest first.
pub mod Each
pub mod Limits
pub mod Values
pub mod ValueLaws
pub mod Codes
pub mod SortKeys
pub mod Beginnings
pub mod Bags
pub mod Picks
pub mod Relations
pub mod Keys
pub mod Faults
pub mod inner
