-- Words of private functions.
pub mod Leaders
pub mod Terms
pub mod Readings
pub mod Progress
