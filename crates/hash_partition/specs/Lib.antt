-- The words of this crate, and those of rows and shares that they are said in.
pub mod Hashing
pub mod Cells
