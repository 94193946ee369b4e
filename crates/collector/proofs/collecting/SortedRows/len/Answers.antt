use Rattle.std.proofs.Common.{◌≡◌, ◌∙◌, ◌+◌, length, take, sym, ap, arith}
use Rattle.std.proofs.lemmas.List.{take_all}
use Rattle.std.proofs.lemmas.List.Sorted.{length_permutation}
use Rattle.rel_base.specs.Picks.{joined}
use Rattle.rel_base.specs.Values.{row_order}
use Rattle.rel_base.proofs.SortedLemmas.{IsPermutation-sorted_by}
use Rattle.rel_base.proofs.StartLemmas.{length-joined-more}
use Rattle.collector.proofs.collecting.SortedRows.len.Goals as goal

pub overflow_add-rows : goal.overflow_add-rows
overflow_add-rows c =
    let few = c.self.invariant in
    let less = c.loop-part-test.true in
    let bound = c.loop-part.invariant.1 in
    let fits = c.len.type_inv in
    omega (arith, few, less, bound, fits, ap length c.deref-part-items.ensures.value)

pub loop-part-preserved : goal.loop-part-preserved
loop-part-preserved c =
    let parts = c.deref-part-items.result.now in
    let own = length-joined-more parts c.loop-part.part-index c.part-item.result c.loop-part-test.true in
    let bound = c.loop-part.invariant.1 in
    let fits = c.len.type_inv in (
      ap (λ rows. rows + c.len.result) c.loop-part.invariant.0
          ∙ ap (λ more. length (joined (take c.loop-part.part-index parts)) + more) (c.len.ensures.len ∙ ap length c.part-item.is)
          ∙ sym own,
      omega (arith, bound, fits),
    )

pub returns : goal.returns
returns c =
    let parts = c.deref-part-items.result.now in
    let over = c.loop-part-test.false in
    let all : take c.loop-part.part-index parts ≡ parts = take_all c.loop-part.part-index parts (omega (arith, over)) in
    c.loop-part.invariant.0 ∙ ap (λ ps. length (joined ps)) (all ∙ c.deref-part-items.ensures.value)
    ∙ sym (length_permutation _ _ (IsPermutation-sorted_by row_order (joined c.self.inside.parts.items)))
    ∙ ap length c.self.view_is
