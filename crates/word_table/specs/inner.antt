-- The words of private functions.
pub mod Gathered
pub mod TextKeys
pub mod Texts
pub mod Unlike
