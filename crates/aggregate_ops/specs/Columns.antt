-- The columns of a group's rows.
--
--   rows_in run               the rows
--   column rows place         the values at a place of the rows
--   cells place kinds rows    the group's value in each column from a place on
--   key_places kinds          the places of what rows are grouped by
--   key_at places row         the values of a row at these places
--   Overflows fault fits      the fault is an overflow only where something doesn't fit
use Rattle.std.specs.Prelude.{◌≡◌, ⊤, ℕ, ◌+◌, Bool, false, List, [], ◌∷◌, map, filter, is_none}
use Rattle.std.specs.List.{enumerate_from}
use Rattle.std.specs.Borrow.{Bor}
use Rattle.rel_base.specs.declared.values.Value.{Value}
use Rattle.myrial_ast.specs.Scalars.{value_at}
use Rattle.myrial_ast.specs.Combinations.{Row, Rows}
use Rattle.myrial_ast.specs.Groups.{Kinds, cell}
use Rattle.aggregate_ops.specs.declared.faults.AggFault.{AggFault}
use Rattle.aggregate_ops.specs.declared.faults.AggFault.TheVariants as fault

-- the rows
abbrev pub rows_in : List (Bor Row) → Rows
rows_in run = map (λ (row : Bor Row). row.now) run

-- the values at a place of the rows
abbrev pub column : Rows → ℕ → List Value
column rows place = map (λ row. value_at row place) rows

-- the group's value in each column from a place on
abbrev pub cells : ℕ → Kinds → Rows → Row
cells place [] rows = []
cells place (kind ∷ kinds) rows = cell kind (column rows place) ∷ cells (place + 1) kinds rows

-- the places of what rows are grouped by
abbrev pub key_places : Kinds → List ℕ
key_places kinds = map (λ e. e.0) (filter (λ e. is_none e.1) (enumerate_from 0 kinds))

-- the values of a row at these places
abbrev pub key_at : List ℕ → Row → Row
key_at places row = map (value_at row) places

-- an overflow is told only where something doesn't fit; memory may be refused at any time
abbrev pub Overflows : AggFault → Bool → Type 0
Overflows fault.AggregateOverflow fits = fits ≡ false
Overflows fault.Memory fits = ⊤
