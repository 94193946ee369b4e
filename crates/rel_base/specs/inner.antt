-- Words of private functions.
pub mod Strides
pub mod Flat
pub mod Selections
pub mod Starts
pub mod Fronts
pub mod RowsLeft
pub mod Letters
pub mod RowValues
