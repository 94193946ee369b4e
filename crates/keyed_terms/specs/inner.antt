-- Words of private functions.
pub mod Making
pub mod Concluding
pub mod Meeting
