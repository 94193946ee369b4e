-- The words of this crate, lowest first.
pub mod Inbox
pub mod Machine
