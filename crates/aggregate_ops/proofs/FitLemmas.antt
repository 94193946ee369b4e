-- Merged partial rows lie in 64 bits where the groups of all rows do.
use Rattle.std.proofs.Common.{◌≡◌, ◌∙◌, ℕ, ◌<◌, ◌^◌, true, not, pos, Option, Some, None, List, [], ◌∷◌, length, map, refl, arith}
use Rattle.std.specs.Prelude.{◌&&◌}
use Rattle.std.specs.List.{list_all}
use Rattle.std.proofs.lemmas.Bool.Decides.{nat_tests}
use Rattle.std.proofs.lemmas.List.{length-map}
use Rattle.std.proofs.lemmas.List.Filters.{length-filter_both}
use Rattle.rel_base.specs.declared.values.Value.{Value}
use Rattle.rel_base.specs.Values.{in_64_bits}
use Rattle.myrial_ast.specs.declared.operators.AggOp.{AggOp}
use Rattle.myrial_ast.specs.declared.operators.AggOp.TheVariants as agg
use Rattle.myrial_ast.specs.Scalars.{value_at}
use Rattle.myrial_ast.specs.Bags.{same_row}
use Rattle.myrial_ast.specs.Combinations.{Row, Rows}
use Rattle.myrial_ast.specs.Groups.{Kinds, cell, group_row, groups, key_of, keys, members, sum_fits, sums_fit}
use Rattle.myrial_ast.specs.Partials.{merged}
use Rattle.bag_laws.proofs.ColumnLemmas.{behind, by_columns, firsts, group_row-columns, joined}
use Rattle.bag_laws.proofs.PartialLemmas.{merged_are_groups}
use Rattle.aggregate_ops.specs.Forms.{added_fits, added_in, sums_in}
use Rattle.aggregate_ops.specs.Laws.{MergedFitAsGroups}
use Rattle.aggregate_ops.proofs.StepLemmas.{list_all-same}

counted : (n : ℕ) → n < 2 ^ 63 → in_64_bits (pos n) ≡ true
counted n low = grind (arith, nat_tests)

-- a count fits, and a sum fits as it does in its group
cell-fits : (kind : Option AggOp) (vs : List Value) → length vs < 2 ^ 63 → added_fits kind (cell kind vs) ≡ sum_fits kind (cell kind vs)
cell-fits None vs low = refl
cell-fits (Some agg.CountAll) [] low = refl
cell-fits (Some agg.CountAll) (v ∷ vs) low = counted (length (v ∷ vs)) low
cell-fits (Some agg.Count) [] low = refl
cell-fits (Some agg.Count) (v ∷ vs) low = counted (length (v ∷ vs)) low
cell-fits (Some agg.Sum) vs low = refl
cell-fits (Some agg.Min) vs low = refl
cell-fits (Some agg.Max) vs low = refl

columns-fit : (kinds : Kinds) (rows : Rows) → length rows < 2 ^ 63 → added_in kinds (by_columns kinds rows) ≡ sums_in kinds (by_columns kinds rows)
columns-fit [] rows low = refl
columns-fit (kind ∷ kinds) rows low =
    let first = cell-fits kind (firsts rows) (omega (arith, low, length-map rows (λ row. value_at row 0))) in
    let others = columns-fit kinds (map behind rows) (omega (arith, low, length-map rows behind)) in
    λ i. first i && others i

row-fits : (kinds : Kinds) (rows : Rows) → length rows < 2 ^ 63 → added_in kinds (group_row kinds rows) ≡ sums_in kinds (group_row kinds rows)
row-fits kinds rows low = rw (group_row-columns kinds rows) (columns-fit kinds rows low)

members-few : (kinds : Kinds) (rows : Rows) (key : Row) → length rows < 2 ^ 63 → length (members kinds rows key) < 2 ^ 63
members-few kinds rows key low =
    omega (arith, low, length-filter_both (λ row. same_row key (key_of kinds row)) (λ row. not (same_row key (key_of kinds row))) (λ row. refl) rows)

groups-fit : (kinds : Kinds) (rows : Rows) → length rows < 2 ^ 63 → list_all (added_in kinds) (groups kinds rows) ≡ sums_fit kinds rows
groups-fit kinds rows low = each (keys kinds rows)
  where
    each : (ks : Rows) → list_all (added_in kinds) (map (λ key. group_row kinds (members kinds rows key)) ks) ≡ list_all (sums_in kinds) (map (λ key. group_row kinds (members kinds rows key)) ks)
    each [] = refl
    each (key ∷ ks) =
        let first = row-fits kinds (members kinds rows key) (members-few kinds rows key low) in
        λ i. first i && each ks i

pub merged_fit_as_groups : MergedFitAsGroups
merged_fit_as_groups kinds lists partials all same low =
    list_all-same (added_in kinds) (merged kinds partials) (groups kinds (joined lists)) (merged_are_groups kinds lists partials all same)
    ∙ groups-fit kinds (joined lists) low
