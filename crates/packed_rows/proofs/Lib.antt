pub mod RunLemmas
pub mod RisingLemmas
pub mod BagLemmas
pub mod StepLemmas
pub mod EmitLemmas
pub mod TwinLemmas
pub mod WorkedRows
