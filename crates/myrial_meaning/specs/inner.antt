-- Words of private functions, lowest first.
pub mod ItemRows
pub mod NeededFlags
pub mod Columns
pub mod Assignments
pub mod Rules
pub mod Listing
pub mod BoundTests
