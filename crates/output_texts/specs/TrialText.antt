-- What is printed of a trial.
--
--   size_line size, rows_line rows, distinct_line rows     its lines
--   trial_text size rows     the size of a trial, and the numbers of its rows and different rows
use Rattle.std.specs.Prelude.{ℕ, List, ◌++◌, length, codes}
use Rattle.std.specs.Fmt.{decimal}
use Rattle.myrial_ast.specs.Bags.{distinct}
use Rattle.rel_base.specs.declared.values.Value.{Value}

-- the line of the size of a trial
abbrev pub size_line : ℕ → List ℕ
size_line size = codes "-- trial size " ++ decimal size ++ codes "\n"

-- the line of a number of rows
abbrev pub rows_line : ℕ → List ℕ
rows_line rows = codes "-- rows " ++ decimal rows ++ codes "\n"

-- the line of a number of different rows
abbrev pub distinct_line : ℕ → List ℕ
distinct_line rows = codes "-- distinct " ++ decimal rows ++ codes "\n"

-- the size of a trial, the number of its rows, and that of its different rows, a line for each
abbrev pub trial_text : ℕ → List (List Value) → List ℕ
trial_text size rows =
    size_line size ++ rows_line (length rows) ++ distinct_line (length (distinct rows))
