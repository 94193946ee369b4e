-- The words of this crate, lowest first.
pub mod Trees
pub mod Shapes
pub mod ShapeConditions
pub mod ShapeTrees
pub mod CheckedTrees
pub mod Joins
pub mod Meanings
pub mod ShapeLaws
pub mod Conditions
pub mod Needed
pub mod Rewriting
