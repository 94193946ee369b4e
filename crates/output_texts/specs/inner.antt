-- Words of private functions.
pub mod Ranges
