-- The relations of a trial.
--
--   most_trial_rows           the most rows of a relation
--   next_state t              the state of the generator behind a state
--   state_after k t           the state behind so many others
--   number_of bound t         the number below a bound that is made of a state
--   trial_rows n j            the rows of relation j of size n
--   trial_file n j name       that relation under its key
--   trial_files n             the three relations of size n
use Rattle.std.specs.Prelude.{ℕ, zero, suc, ◌+◌, ◌*◌, ◌/◌, ◌%◌, ◌^◌, pos, List, [], ◌∷◌, map, codes}
use Rattle.std.specs.List.{range_with_len}
use Rattle.rel_base.specs.declared.names.Key.{Key}
use Rattle.rel_base.specs.declared.relations.Column.{Column}
use Rattle.rel_base.specs.declared.values.Value.{Value}
use Rattle.rel_base.specs.declared.values.Value.TheVariants as value
use Rattle.rel_base.specs.declared.values.ColType.TheVariants as kind
use Rattle.rel_base.specs.Keys.{File}

-- the most rows of a relation of a trial
abbrev pub most_trial_rows : ℕ
most_trial_rows = 100000

-- ---- numbers

-- the state of the generator behind a state
abbrev pub next_state : ℕ → ℕ
next_state t = (t * 6364136223846793005 + 1442695040888963407) % 2 ^ 64

-- the state behind so many others
abbrev pub state_after : ℕ → ℕ → ℕ
state_after zero t = t
state_after (suc k) t = next_state (state_after k t)

-- the number below a bound that is made of a state, of which the high bits are taken
abbrev pub number_of : ℕ → ℕ → ℕ
number_of bound t = t / 2 ^ 33 % bound

-- ---- relations

-- the row of the numbers of the two states behind a state
abbrev pub row_behind : ℕ → ℕ → List Value
row_behind bound t =
    value.Int (pos (number_of bound (next_state t)))
    ∷ value.Int (pos (number_of bound (next_state (next_state t)))) ∷ []

-- row i of relation j of size n, from 0: it stands behind two states for each row before it, and its numbers are at most an
-- eighth of the size
abbrev pub trial_row : ℕ → ℕ → ℕ → List Value
trial_row n j i = row_behind (n / 8 + 1) (state_after (2 * i) (4 * n + j))

-- the rows of relation j of size n
abbrev pub trial_rows : ℕ → ℕ → List (List Value)
trial_rows n j = map (trial_row n j) (range_with_len 0 n)

-- two columns of numbers, `a` and `b`
abbrev pub trial_columns : List Column
trial_columns = record { name = codes "a"; kind = kind.Int }
    ∷ record { name = codes "b"; kind = kind.Int } ∷ []

-- the key of a name that stands by itself
abbrev pub trial_key : List ℕ → Key
trial_key name = record { user = codes "public"; program = codes "adhoc"; name = name }

-- relation j of size n, under its key
abbrev pub trial_file : ℕ → ℕ → List ℕ → File
trial_file n j name = (trial_key name, record { schema = trial_columns; rows = trial_rows n j })

-- the three relations of size n
abbrev pub trial_files : ℕ → List File
trial_files n = trial_file n 1 (codes "E1") ∷ trial_file n 2 (codes "E2")
    ∷ trial_file n 3 (codes "E3") ∷ []
