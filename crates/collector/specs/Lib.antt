-- Words of private functions.
pub mod inner
