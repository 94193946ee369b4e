-- Words of private functions.
pub mod Pushing
pub mod Steps
