-- The limits of numbers that stand in the words alone.
use Rattle.std.specs.Prelude.{ℕ}

-- the most rows of each relation of a trial
abbrev pub most_size : ℕ
most_size = 100000

-- the greatest hash seed
abbrev pub most_seed : ℕ
most_seed = 18446744073709551615
