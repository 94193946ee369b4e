use Rattle.std.proofs.Common.{◌∙◌, [], ap, sym, subst, arith, length}
use Rattle.std.proofs.lemmas.Result.{IfOk-weaker}
use Rattle.std.proofs.lemmas.List.{length-map}
use Rattle.std.proofs.lemmas.List.Sorted.{length_permutation}
use Rattle.std.specs.Borrow.{Bor}
use Rattle.rel_base.specs.Bags.{SameBag}
use Rattle.myrial_ast.specs.Combinations.{Row, Rows}
use Rattle.myrial_ast.specs.Bags.{difference, distinct}
use Rattle.bag_laws.proofs.RowPermutations.{distinct-same}
use Rattle.packed_rows.proofs.BagLemmas.{difference-none}
use Rattle.aggregate_ops.specs.Columns.{rows_in}
use Rattle.aggregate_ops.proofs.bags.distinct_by_sort.Goals as goal

pub without-requires-clause-few : goal.without-requires-clause-few
without-requires-clause-few c =
    let rows = c.in_ok-sorted.sorted.items in
    omega (
      arith,
      c.in_ok-sorted.ensures.few,
      ap length c.deref.ensures.value,
      length-map rows (λ (r : Bor Row). r.now),
      length_permutation c.args.rows.now (rows_in rows) c.in_ok-sorted.ensures.order.same_rows,
    )

pub returns : goal.returns
returns c =
    let rows = rows_in c.in_ok-sorted.sorted.items in
    let same = distinct-same c.args.rows.now rows c.in_ok-sorted.ensures.order.same_rows in
    IfOk-weaker c.without.result _ _
    (λ made is. subst (λ (rows : Rows). SameBag (distinct c.args.rows.now) rows)
    (sym (is ∙ (λ i. difference (rows_in (c.deref.ensures.value i)) []) ∙ difference-none rows)) same)
    c.without.ensures
