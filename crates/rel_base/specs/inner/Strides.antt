-- Places a step apart.
use Rattle.std.specs.Prelude.{ℕ, ◌+◌, zero, suc, List, [], ◌∷◌}

-- so many places from the start on, a step apart
abbrev pub stepped : ℕ → ℕ → ℕ → List ℕ
stepped start step zero = []
stepped start step (suc n) = start ∷ stepped (start + step) step n
