-- Words of private functions and of the models of the ends.
pub mod CellRule
pub mod Outlets
pub mod Intakes
pub mod Keeps
pub mod Closings
