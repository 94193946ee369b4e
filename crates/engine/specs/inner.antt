-- Words of private functions, lowest first.
pub mod Held
pub mod Joins
pub mod Terms
pub mod Steps
