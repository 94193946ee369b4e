use Rattle.std.proofs.Common.{◌∙◌, arith}
use Rattle.std.proofs.lemmas.List.Sorted.{length_permutation}
use Rattle.collector.proofs.SortingLemmas.{in_order_by_run, rows_in_order, rows_of_run}
use Rattle.collector.proofs.parts.SortedPart.of.Goals as goal

pub invariant_of-result : goal.invariant_of-result
invariant_of-result c =
    let runs = c.if-is_sorted.ensures.runs in
    let same = rows_of_run c.args.part.now runs.0 runs.2.0 (runs.1 ∙ c.iter.ensures.value) in
    (in_order_by_run c.args.part.now runs.0.items same runs.2.1.0, c.iter.ensures.bound)

pub invariant_of-result-2 : goal.invariant_of-result-2
invariant_of-result-2 c =
    let sorted = c.in_ok-listed.ensures in
    let bound = c.iter.ensures.bound in (
      rows_in_order c.in_ok-listed.listed.items sorted.ascending.in_order,
      omega (arith, bound, length_permutation _ _ sorted.same_rows),
    )
