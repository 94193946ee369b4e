-- Words of private functions.
pub mod Columns
pub mod Places
