use Rattle.std.proofs.Common.{◌≡◌, ◌∙◌, List, ap, subst}
use Rattle.rel_base.specs.declared.values.Value.{Value}
use Rattle.rel_base.specs.Bags.{IsSortedPermutation}
use Rattle.rel_base.specs.Picks.{joined}
use Rattle.rel_base.specs.Values.{row_order}
use Rattle.rel_base.specs.ValueLaws.{row_order_total, row_order-IsAntisymmetric}
use Rattle.rel_base.proofs.SortedLemmas.{sorted_by-unique}
use Rattle.collector.proofs.collecting.collect.Goals as goal

pub returns : goal.returns
returns c =
    let whole : c.in_ok-rows.rows ≡ joined c.args.parts.now = c.in_ok-rows.ensures ∙ ap joined c.as_slice.ensures.value in
    let is = subst (λ (rows : List (List Value)). IsSortedPermutation rows c.sort.new.self) whole c.in_ok-sort.ensures.ok in
    sorted_by-unique row_order row_order_total row_order-IsAntisymmetric (joined c.args.parts.now) c.sort.new.self is.same_rows is.ascending
