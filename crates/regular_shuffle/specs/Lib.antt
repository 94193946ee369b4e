-- The words of this crate.
pub mod KeySpreads
pub mod BroadcastJoins
pub mod TwoWayJoins
pub mod inner
