-- Words of private functions.
pub mod RecordsLeft
pub mod PlainLines
pub mod Ranges
