pub mod Cuts
pub mod Jobs
pub mod Merged
pub mod Packing
pub mod Sorted
