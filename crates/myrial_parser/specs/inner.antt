-- Words of the private functions.
pub mod Descent
