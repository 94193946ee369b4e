-- The bits of a set of numbers.
--
--   bit_of set number     whether a number is in the set, if it has a bit there
use Rattle.std.specs.Prelude.{ℕ, ◌/◌, ◌%◌, ◌==◌, Bool, slice_get, Option, option_map}
use Rattle.std.specs.Int.{bit_at}
use Rattle.bit_sets.specs.declared.bit_set.BitSet.{BitSet}

-- whether a number is in the set, if it has a bit there: each word has 64 of them
abbrev pub bit_of : BitSet → ℕ → Option Bool
bit_of set number =
    option_map (λ word. bit_at word (number % 64) == 1) (slice_get set.words.items (number / 64))
