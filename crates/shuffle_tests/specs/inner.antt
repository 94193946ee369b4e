-- Words of private functions.
pub mod Numbers
pub mod Paths
