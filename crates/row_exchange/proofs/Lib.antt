-- Laws of what the crate promises.
pub mod ViewLemmas
pub mod FillingLemmas
pub mod OneCellLemmas
pub mod ShippingLemmas
pub mod ReceivingLemmas
pub mod GatheringLemmas
pub mod SumLemmas
pub mod MessageLemmas
pub mod TapLemmas
pub mod MoveLemmas
pub mod ReceiptLemmas
pub mod AssemblyLemmas
pub mod WorkedRows
