-- The values of a row.
use Rattle.std.specs.Prelude.{◌≡◌, ℕ, ◌≤◌, List, take, length, slice_index_or, slice_set, ⊤}
use Rattle.rel_base.specs.declared.values.Value.{Value}
use Rattle.rel_base.specs.declared.row_values.Values.{Values}
use Rattle.rel_base.specs.declared.row_values.Values.TheVariants.{Few, Many}

-- the values, wherever they stand
abbrev pub values_in : Values → List Value
values_in (Few len values) = take len values
values_in (Many values) = values.items

-- a row has three places of its own, and no more values in them
abbrev pub HasPlaces : Values → Type 0
HasPlaces (Few len values) = (len ≤ 3) × (length values ≡ 3)
HasPlaces (Many values) = ⊤

-- what stands in one of the row's own places; a row that has none gives the other value
abbrev pub value_at : Values → ℕ → Value → Value
value_at (Few len values) place other = slice_index_or values place other
value_at (Many values) place other = other

-- the same with another value in one of the row's own places, if it has any
abbrev pub with_value : Values → ℕ → Value → Values
with_value (Few len values) place value = Few len (slice_set values place value)
with_value (Many values) place value = Many values
