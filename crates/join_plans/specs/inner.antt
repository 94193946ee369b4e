-- Words of private functions.
pub mod Spans
pub mod Counts
pub mod Lines
