-- Words of private functions.
pub mod Reading
pub mod MergedCells
