use Rattle.std.proofs.Common.{◌≡◌, sym, subst, List}
use Rattle.std.specs.Prelude.{◌↔◌}
use Rattle.rel_base.specs.declared.values.Value.{Value}
use Rattle.rel_base.specs.Bags.{sorted, IsSortedPermutation}
use Rattle.rel_base.specs.ValueLaws.{row_order_total, row_order-IsAntisymmetric}
use Rattle.rel_base.specs.Values.{row_order}
use Rattle.rel_base.proofs.SortedLemmas.{sorted_by-unique, Ascending-sorted_by, IsSorted-Ascending, IsPermutation-sorted_by}
use Rattle.rel_base.proofs.relations.sorted_permutation_is_unique.Goals as goal

its_own : (rows : List (List Value)) → IsSortedPermutation rows (sorted rows)
its_own rows = record {
  same_rows = IsPermutation-sorted_by row_order rows;
  ascending = IsSorted-Ascending row_order row_order_total row_order-IsAntisymmetric (sorted rows) (Ascending-sorted_by row_order row_order_total row_order-IsAntisymmetric rows);
}

both : (rows others : List (List Value)) → IsSortedPermutation rows others ↔ (others ≡ sorted rows)
both rows others = (
  λ s. sorted_by-unique row_order row_order_total row_order-IsAntisymmetric rows others s.same_rows s.ascending,
  λ e. subst (IsSortedPermutation rows) (sym e) (its_own rows),
)

pub returns : goal.returns
returns c = both c.args.rows.now c.args.others.now
