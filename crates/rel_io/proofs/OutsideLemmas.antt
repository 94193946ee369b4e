-- Counts that rise.
use Rattle.std.proofs.Common.{ℕ, ◌≤◌, inl, inr, arith}
use Rattle.rel_io.specs.Outside.{Rose}

-- A count that rose in a part of a call rose in the whole call, where it falls in no part.
pub Rose-part : (before first second now : ℕ) → before ≤ first → first ≤ second → second ≤ now → Rose first second → Rose before now
Rose-part before first second now a b c (inl less) = inl (omega arith)
Rose-part before first second now a b c (inr last) = grind arith
