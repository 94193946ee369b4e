pub mod ColumnLemmas
pub mod RunLemmas
pub mod CellLemmas
pub mod StepLemmas
pub mod FitLemmas
pub mod EmitLemmas
