-- Words of private functions.
pub mod Pairs
pub mod Shipments
pub mod Stations
pub mod Gatherings
