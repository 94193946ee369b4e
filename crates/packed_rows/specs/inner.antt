-- The words of private functions.
pub mod Twins
