-- Words of private functions.
pub mod Working
