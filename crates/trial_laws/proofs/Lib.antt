-- Proofs of the laws: tokens, statements, steps.
mod TokenLemmas
mod StatementLemmas
mod TypingLemmas
