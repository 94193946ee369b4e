-- The words of this crate, lowest first.
pub mod SideBySide
pub mod Lent
pub mod Results
