-- What is made of the row of a group: the row itself, a partial row, or the row of merged partial rows.
--
--   grouped_kinds form kinds     how the rows are grouped
--   formed form kinds row        what is made of the row of a group
--   form_fits form kinds row     whether it lies in 64 bits
--   merged_fits kinds partials   whether the sums and counts of merged partial rows lie in 64 bits
use Rattle.std.specs.Prelude.{Bool, true, Option, Some, map}
use Rattle.std.specs.List.{list_all, zip}
use Rattle.rel_base.specs.declared.values.Value.{Value}
use Rattle.rel_base.specs.Values.{number_of, in_64_bits}
use Rattle.myrial_ast.specs.declared.operators.AggOp.{AggOp}
use Rattle.myrial_ast.specs.declared.operators.AggOp.TheVariants as agg
use Rattle.myrial_ast.specs.Combinations.{Row, Rows}
use Rattle.myrial_ast.specs.Groups.{Kinds, groups, sum_fits}
use Rattle.myrial_ast.specs.Partials.{split_sums, whole_sums, partial_kinds, merged}
use Rattle.aggregate_ops.specs.declared.group_rows.Form.{Form}
use Rattle.aggregate_ops.specs.declared.group_rows.Form.TheVariants.{Whole, Split, Merged}

-- how the rows are grouped
abbrev pub grouped_kinds : Form → Kinds → Kinds
grouped_kinds Whole kinds = kinds
grouped_kinds Split kinds = kinds
grouped_kinds Merged kinds = partial_kinds kinds

-- what is made of the row of a group
abbrev pub formed : Form → Kinds → Row → Row
formed Whole kinds row = row
formed Split kinds row = split_sums kinds row
formed Merged kinds row = whole_sums kinds row

-- whether a value of merged rows lies in 64 bits, where it was added up
abbrev pub added_fits : Option AggOp → Value → Bool
added_fits (Some agg.Sum) v = in_64_bits (number_of v)
added_fits (Some agg.Count) v = in_64_bits (number_of v)
added_fits (Some agg.CountAll) v = in_64_bits (number_of v)
added_fits _ v = true

-- whether the sums of a row lie in 64 bits, and whether its counts do too
abbrev pub sums_in : Kinds → Row → Bool
sums_in kinds row = list_all (λ p. sum_fits p.0 p.1) (zip kinds row)

abbrev pub added_in : Kinds → Row → Bool
added_in kinds row = list_all (λ p. added_fits p.0 p.1) (zip kinds row)

-- whether what is made lies in 64 bits; the columns of a split sum always do
abbrev pub form_fits : Form → Kinds → Row → Bool
form_fits Whole kinds row = sums_in kinds row
form_fits Split kinds row = true
form_fits Merged kinds row = added_in kinds (whole_sums kinds row)

-- whether the sums and counts of merged partial rows lie in 64 bits
abbrev pub merged_fits : Kinds → Rows → Bool
merged_fits kinds partials = list_all (added_in kinds) (merged kinds partials)

-- the rows that are made of these, and whether they lie in 64 bits
abbrev pub results : Form → Kinds → Rows → Rows
results form kinds rows = map (formed form kinds) (groups (grouped_kinds form kinds) rows)

abbrev pub results_fit : Form → Kinds → Rows → Bool
results_fit form kinds rows =
    list_all (form_fits form kinds) (groups (grouped_kinds form kinds) rows)
