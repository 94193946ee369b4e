-- Classes of columns by the leaders of all columns.
--
--   merged leaders left right     the leaders behind an equality of two columns
--   class_by leaders column       the columns that have the leader of this one
--   is_first_by leaders column    no smaller column has its leader
--   variables_at widths leaders column    the join variable whose first column it is, if there is one
use Rattle.std.specs.Prelude.{ℕ, ◌==◌, Bool, ◌&&◌, not, nat_lt, if◌then◌else◌, List, [], ◌∷◌, filter, length, map, slice_index}
use Rattle.std.specs.List.{list_any, range_with_len}
use Rattle.myrial_ast.specs.Classes.{joins_items}

-- the leaders behind an equality: the class of its second column gets the leader of its first
abbrev pub merged : List ℕ → ℕ → ℕ → List ℕ
merged leaders left right =
    map (λ own. if own == slice_index leaders right then slice_index leaders left else own) leaders

-- the columns that have the leader of this one, in order
abbrev pub class_by : List ℕ → ℕ → List ℕ
class_by leaders column =
    filter (λ d. slice_index leaders column == slice_index leaders d) (range_with_len 0 (length leaders))

-- whether no smaller column has its leader
abbrev pub is_first_by : List ℕ → ℕ → Bool
is_first_by leaders column =
    not (list_any (λ d. nat_lt d column && slice_index leaders d == slice_index leaders column)
    (range_with_len 0 (length leaders)))

-- the class of a column, where the column is the first of its class and the class is a join variable
abbrev pub variables_at : List ℕ → List ℕ → ℕ → List (List ℕ)
variables_at widths leaders column =
    filter (joins_items widths) (map (class_by leaders) (filter (is_first_by leaders) (column ∷ [])))
