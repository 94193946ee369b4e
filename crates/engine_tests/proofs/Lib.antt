-- Laws of what the tests ask.
pub mod FileLemmas
