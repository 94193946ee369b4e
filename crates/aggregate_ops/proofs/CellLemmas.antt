-- The row of a group, column by column, and the groups that a run is taken from.
use Rattle.std.proofs.Common.{◌≡◌, ℕ, ◌+◌, true, false, List, [], ◌∷◌, ◌++◌, length, map, take, drop, refl, sym, ◌∙◌, ap, subst, append_assoc, arith}
use Rattle.std.specs.Prelude.{◌&&◌, ◌<◌, ◌^◌, IsSorted, Some, Result, OnOk, IfOk, IfErr}
use Rattle.std.specs.List.{enumerate_from, list_all}
use Rattle.std.proofs.lemmas.List.{drop-map, map-id}
use Rattle.std.proofs.lemmas.List.Folds.{list_all-map}
use Rattle.std.proofs.lemmas.List.Sorted.{IsPermutation-map, All-permutation, length_permutation}
use Rattle.std.proofs.lemmas.Result.{IfOk-weaker, IfErr-weaker, on_ok_weaker}
use Rattle.rel_base.specs.Bags.{SameBag}
use Rattle.myrial_ast.specs.Partials.{whole_sums, partial_kinds}
use Rattle.bag_laws.proofs.GroupPermutations.{groups-same}
use Rattle.rel_base.specs.Values.{row_order}
use Rattle.myrial_ast.specs.Scalars.{value_at}
use Rattle.myrial_ast.specs.Combinations.{Row, Rows}
use Rattle.rel_base.specs.declared.values.Value.TheVariants as value
use Rattle.myrial_ast.specs.declared.operators.AggOp.TheVariants as agg
use Rattle.myrial_ast.specs.Groups.{Kinds, cell, total, group_row, groups}
use Rattle.bag_laws.specs.PartialLaws.{AreGrouped}
use Rattle.bag_laws.proofs.PartialLemmas.{places-key}
use Rattle.packed_rows.specs.Runs.{IsRun}
use Rattle.packed_rows.proofs.RunLemmas.{sorted-drop}
use Rattle.packed_rows.proofs.BagLemmas.{All-drop}
use Rattle.aggregate_ops.specs.declared.faults.AggFault.{AggFault}
use Rattle.aggregate_ops.specs.declared.faults.AggFault.TheVariants as fault
use Rattle.aggregate_ops.specs.declared.group_rows.Form.{Form}
use Rattle.aggregate_ops.specs.declared.group_rows.Form.TheVariants.{Whole, Split, Merged}
use Rattle.aggregate_ops.specs.Columns.{column, cells, key_places, key_at, Overflows}
use Rattle.aggregate_ops.specs.Forms.{grouped_kinds, formed, form_fits, added_in, merged_fits, results, results_fit}
use Rattle.aggregate_ops.proofs.RunLemmas.{groups-step}
use Rattle.aggregate_ops.proofs.StepLemmas.{list_all-same, list_all-true}

cells-from : (kinds : Kinds) (place : ℕ) (rows : Rows)
    → cells place kinds rows ≡ map (λ p. cell p.1 (map (λ row. value_at row p.0) rows)) (enumerate_from place kinds)
cells-from [] place rows = refl
cells-from (kind ∷ kinds) place rows = ap (λ (row : Row). cell kind (column rows place) ∷ row) (cells-from kinds (place + 1) rows)

-- the cells are the row of the group
pub cells_row : (kinds : Kinds) (rows : Rows) → cells 0 kinds rows ≡ group_row kinds rows
cells_row kinds rows = cells-from kinds 0 rows

-- a sum, also of no rows
pub sum_cell : (rows : Rows) (place : ℕ) → cell (Some agg.Sum) (column rows place) ≡ value.Int (total (column rows place))
sum_cell [] place = refl
sum_cell (row ∷ rows) place = refl

-- what is made of the first run, and of the rows behind it
pub record StepsOver (form : Form) (kinds : Kinds) (rows : Rows) (n : ℕ) : Type 0 where
  pub rows_are : results form kinds rows ≡ formed form kinds (group_row (grouped_kinds form kinds) (take n rows)) ∷ results form kinds (drop n rows)
  pub fit_is : results_fit form kinds rows ≡ (form_fits form kinds (group_row (grouped_kinds form kinds) (take n rows)) && results_fit form kinds (drop n rows))

pub steps-over : (form : Form) (kinds : Kinds) (places : List ℕ) (rows : Rows) (n : ℕ) → places ≡ key_places (grouped_kinds form kinds)
    → AreGrouped (grouped_kinds form kinds) rows → IsSorted row_order (map (key_at places) rows) → IsRun (map (key_at places) rows) n → StepsOver form kinds rows n
steps-over form kinds places rows n is all s r = record {
  rows_are = ap (map (formed form kinds)) step;
  fit_is = ap (list_all (form_fits form kinds)) step;
}
  where
    grouping : Kinds
    grouping = grouped_kinds form kinds

    step : groups grouping rows ≡ group_row grouping (take n rows) ∷ groups grouping (drop n rows)
    step =
        groups-step grouping places (λ row e. sym (places-key grouping row e) ∙ ap (λ ps. key_at ps row) (sym is)) rows n all s r

-- what is made of the runs so far, and what is left of the rows in order
pub record LeftOver (form : Form) (kinds : Kinds) (places : List ℕ) (rows made left : Rows) : Type 0 where
  pub width : AreGrouped (grouped_kinds form kinds) left
  pub ascending : IsSorted row_order (map (key_at places) left)
  pub rows_are : made ++ results form kinds left ≡ results form kinds rows
  pub fit_is : results_fit form kinds left ≡ results_fit form kinds rows

-- one run more
pub one-more : (form : Form) (kinds : Kinds) (places : List ℕ) (rows made left : Rows) (n : ℕ) (row : Row)
    → places ≡ key_places (grouped_kinds form kinds) → LeftOver form kinds places rows made left → IsRun (map (key_at places) left) n
    → row ≡ formed form kinds (group_row (grouped_kinds form kinds) (take n left))
    → form_fits form kinds (group_row (grouped_kinds form kinds) (take n left)) ≡ true
    → LeftOver form kinds places rows (made ++ row ∷ []) (drop n left)
one-more form kinds places rows made left n row is l r row_is fits =
    let s = steps-over form kinds places left n is l.width l.ascending r in
    record {
      width = All-drop (λ r. length r ≡ length (grouped_kinds form kinds)) n left l.width;
      ascending = subst (λ (keys : Rows). IsSorted row_order keys) (drop-map (key_at places) n left) (sorted-drop n (map (key_at places) left) l.ascending);
      rows_are =
          append_assoc made (row ∷ []) (results form kinds (drop n left))
          ∙ ap (λ rows. made ++ rows) ((λ i. row_is i ∷ results form kinds (drop n left)) ∙ sym s.rows_are) ∙ l.rows_are;
      fit_is = sym (s.fit_is ∙ ap (λ b. b && results_fit form kinds (drop n left)) fits) ∙ l.fit_is;
    }

-- one run doesn't fit
pub one-overflows : (form : Form) (kinds : Kinds) (places : List ℕ) (rows made left : Rows) (n : ℕ)
    → places ≡ key_places (grouped_kinds form kinds) → LeftOver form kinds places rows made left → IsRun (map (key_at places) left) n
    → form_fits form kinds (group_row (grouped_kinds form kinds) (take n left)) ≡ false
    → results_fit form kinds rows ≡ false
one-overflows form kinds places rows made left n is l r fails =
    sym l.fit_is ∙ (steps-over form kinds places left n is l.width l.ascending r).fit_is ∙ ap (λ b. b && results_fit form kinds (drop n left)) fails

-- the same, of the fault that is told
pub one-overflows-as : (form : Form) (kinds : Kinds) (places : List ℕ) (rows made left : Rows) (n : ℕ) (given : AggFault)
    → places ≡ key_places (grouped_kinds form kinds) → LeftOver form kinds places rows made left → IsRun (map (key_at places) left) n
    → Overflows given (form_fits form kinds (group_row (grouped_kinds form kinds) (take n left)))
    → Overflows given (results_fit form kinds rows)
one-overflows-as form kinds places rows made left n fault.Memory is l r fails = tt
one-overflows-as form kinds places rows made left n fault.AggregateOverflow is l r fails = one-overflows form kinds places rows made left n is l r fails

-- the order of the rows changes no result but in its order
pub results-same : (form : Form) (kinds : Kinds) (rows others : Rows) → SameBag rows others → SameBag (results form kinds rows) (results form kinds others)
results-same form kinds rows others h =
    IsPermutation-map (formed form kinds) (groups (grouped_kinds form kinds) rows) (groups (grouped_kinds form kinds) others)
    (groups-same (grouped_kinds form kinds) rows others h)

pub results_fit-same : (form : Form) (kinds : Kinds) (rows others : Rows) → SameBag rows others → results_fit form kinds rows ≡ results_fit form kinds others
results_fit-same form kinds rows others h =
    list_all-same (form_fits form kinds) (groups (grouped_kinds form kinds) rows) (groups (grouped_kinds form kinds) others)
    (groups-same (grouped_kinds form kinds) rows others h)

-- what is told of the results of rows is told of them in another order too
module _ (form : Form) (kinds : Kinds) (rows others : Rows) (same : SameBag rows others) where
  pub bag-as : (made : Result Rows AggFault) → IfOk made (λ made. made ≡ results form kinds others) → IfOk made (λ made. SameBag (results form kinds rows) made)
  bag-as made =
      IfOk-weaker made (λ made. made ≡ results form kinds others) (λ made. SameBag (results form kinds rows) made)
      (λ made e. rw e (results-same form kinds rows others same))

  pub fits-as : (made : Result Rows AggFault) → OnOk made (results_fit form kinds others ≡ true) → OnOk made (results_fit form kinds rows ≡ true)
  fits-as made = on_ok_weaker made (λ e. results_fit-same form kinds rows others same ∙ e)

  pub fault-as : (made : Result Rows AggFault) → IfErr made (λ given. Overflows given (results_fit form kinds others))
      → IfErr made (λ given. Overflows given (results_fit form kinds rows))
  fault-as made =
      IfErr-weaker made (λ given. Overflows given (results_fit form kinds others)) (λ given. Overflows given (results_fit form kinds rows))
      (λ given e. rw (results_fit-same form kinds rows others same) e)

  pub width-as : AreGrouped (grouped_kinds form kinds) rows → AreGrouped (grouped_kinds form kinds) others
  width-as width = All-permutation (λ row. length row ≡ length (grouped_kinds form kinds)) rows others same width

  pub few-as : length rows < 2 ^ 32 → length others < 2 ^ 32
  few-as few = omega (arith, length_permutation rows others same, few)

-- the rows of groups are made of themselves
pub results_whole : (kinds : Kinds) (rows : Rows) → results Whole kinds rows ≡ groups kinds rows
results_whole kinds rows = map-id (groups kinds rows)

-- partial rows always fit
pub split_fits : (kinds : Kinds) (rows : Rows) → results_fit Split kinds rows ≡ true
split_fits kinds rows = list_all-true (groups kinds rows)

-- so do merged rows where their sums and counts do
pub merged_fit : (kinds : Kinds) (rows : Rows) → merged_fits kinds rows ≡ results_fit Merged kinds rows
merged_fit kinds rows = list_all-map (added_in kinds) (whole_sums kinds) (groups (partial_kinds kinds) rows)
