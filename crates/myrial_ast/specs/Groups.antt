-- Groups of listed rows.
--
-- In a listed row that is grouped each emitted expression has a column: what rows are grouped by, or the argument of an
-- aggregate, which for `count(*)` is any value.
--
--   has_aggregate kinds       whether rows are grouped at all
--   groups kinds rows         a row for each group, in order of first rows
--   sums_fit kinds rows       whether every sum of a group lies in 64 bits
--   result_rows kinds rows    the rows themselves, or, where there is an aggregate, those of their groups
use Rattle.std.specs.Prelude.{ℤ, pos, ◌+ℤ◌, Bool, true, if◌then◌else◌, List, [], ◌∷◌, map, filter, fold, length, Option, Some, None, is_some, is_none}
use Rattle.std.specs.Ordering.{is_lt, is_gt}
use Rattle.std.specs.List.{list_all, list_any, enumerate_from, zip}
use Rattle.rel_base.specs.declared.values.Value.{Value}
use Rattle.rel_base.specs.declared.values.Value.TheVariants as value
use Rattle.rel_base.specs.Values.{value_order, number_of, in_64_bits}
use Rattle.myrial_ast.specs.declared.operators.AggOp.{AggOp}
use Rattle.myrial_ast.specs.declared.operators.AggOp.TheVariants as agg
use Rattle.myrial_ast.specs.Scalars.{value_at}
use Rattle.myrial_ast.specs.Combinations.{Row, Rows}
use Rattle.myrial_ast.specs.Bags.{same_row, distinct}

-- for each column its aggregate, or nothing where rows are grouped by it
abbrev pub Kinds : Type 0
Kinds = List (Option AggOp)

-- whether some column has an aggregate
abbrev pub has_aggregate : Kinds → Bool
has_aggregate kinds = list_any is_some kinds

-- the values that the row is grouped by
abbrev pub key_of : Kinds → Row → Row
key_of kinds row = map (λ p. p.1) (filter (λ p. is_none p.0) (zip kinds row))

-- the keys of the groups, in order of their first rows
abbrev pub keys : Kinds → Rows → Rows
keys kinds rows = distinct (map (key_of kinds) rows)

-- the rows of the group with this key
abbrev pub members : Kinds → Rows → Row → Rows
members kinds rows key = filter (λ row. same_row key (key_of kinds row)) rows

-- the exact sum of the numbers
abbrev pub total : List Value → ℤ
total values = fold (λ sum v. sum +ℤ number_of v) (pos 0) values

-- the first of two values by the order, and the last
abbrev pub lesser : Value → Value → Value
lesser a b = if is_lt (value_order b a) then b else a

abbrev pub greater : Value → Value → Value
greater a b = if is_gt (value_order b a) then b else a

-- the value of a group in a column with this kind: the first of its values, by which it is grouped, or an aggregate of them
abbrev pub cell : Option AggOp → List Value → Value
cell kind [] = value.Int (pos 0)
cell None (v ∷ values) = v
cell (Some agg.CountAll) (v ∷ values) = value.Int (pos (length (v ∷ values)))
cell (Some agg.Count) (v ∷ values) = value.Int (pos (length (v ∷ values)))
cell (Some agg.Sum) (v ∷ values) = value.Int (total (v ∷ values))
cell (Some agg.Min) (v ∷ values) = fold lesser v values
cell (Some agg.Max) (v ∷ values) = fold greater v values

-- the row of a group with these rows
abbrev pub group_row : Kinds → Rows → Row
group_row kinds rows =
    map (λ p. cell p.1 (map (λ row. value_at row p.0) rows)) (enumerate_from 0 kinds)

-- a row for each group
abbrev pub groups : Kinds → Rows → Rows
groups kinds rows = map (λ key. group_row kinds (members kinds rows key)) (keys kinds rows)

-- the rows themselves, or those of their groups
abbrev pub result_rows : Kinds → Rows → Rows
result_rows kinds rows = if has_aggregate kinds then groups kinds rows else rows

-- whether every number of a row lies in 64 bits
abbrev pub row_fits : Row → Bool
row_fits row = list_all (λ v. in_64_bits (number_of v)) row

-- whether the value of a group in a column with this kind, where it is a sum, lies in 64 bits
abbrev pub sum_fits : Option AggOp → Value → Bool
sum_fits (Some agg.Sum) v = in_64_bits (number_of v)
sum_fits _ v = true

-- whether every sum of a group lies in 64 bits
abbrev pub sums_fit : Kinds → Rows → Bool
sums_fit kinds rows =
    list_all (λ row. list_all (λ p. sum_fits p.0 p.1) (zip kinds row)) (groups kinds rows)
