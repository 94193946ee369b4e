-- Proofs of the laws, lowest first, and the worked rows.
pub mod SourceLemmas
pub mod MeantLemmas
pub mod NeededLemmas
pub mod TypeLemmas
pub mod RewrittenLemmas
pub mod ScriptLemmas
pub mod BagLemmas
pub mod TableLemmas
pub mod NoteLemmas
pub mod FoundLemmas
pub mod HeldLemmas
pub mod LoopLemmas
pub mod MovedLemmas
pub mod RunLemmas
pub mod SendLemmas
pub mod AlikeLemmas
pub mod TermLemmas
pub mod PrefixLemmas
pub mod TypedLemmas
pub mod KeptLemmas
pub mod PartLemmas
pub mod JoinedLemmas
mod WorkedRows
