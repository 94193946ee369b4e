-- The words of the tests.
pub mod inner
