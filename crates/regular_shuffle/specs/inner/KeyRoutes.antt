-- Routes by keys.
--
--   columns_for atom first others      the key columns of an atom: those of atom 0, or of any other
--   HasColumns columns row             a row has a value in each of these columns
use Rattle.std.specs.Prelude.{ℕ, zero, suc, List}

-- the key columns of an atom: some for atom 0, and others for any other atom
abbrev pub columns_for : ℕ → List ℕ → List ℕ → List ℕ
columns_for zero first others = first
columns_for (suc atom) first others = others
