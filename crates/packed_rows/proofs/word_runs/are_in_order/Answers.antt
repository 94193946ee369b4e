use Rattle.std.proofs.Common.{◌∙◌, ◌-◌, ap, sym, map, is_lt, arith}
use Rattle.std.proofs.lemmas.Grind.{common_steps}
use Rattle.std.proofs.lemmas.List.{get_or-map}
use Rattle.rel_base.specs.Values.{row_order}
use Rattle.packed_rows.specs.Unpacked.{unpacked_row}
use Rattle.packed_rows.proofs.StepLemmas.{order-more}
use Rattle.packed_rows.proofs.word_runs.are_in_order.Goals as goal

pub loop-count-preserved : goal.loop-count-preserved
loop-count-preserved c =
    let row = unpacked_row c.args.columns.now in
    let words = c.args.words.now in
    let count = c.loop-count.count in (
      omega arith,
      order-more (map row words) count c.loop-count.invariant.0 c.loop-count.invariant.1
          (λ d. (λ i. is_lt (row_order (get_or-map row words count 0 d (omega arith) i) (get_or-map row words (count - 1) 0 d (omega arith) i)))
          ∙ sym (ap is_lt c.word_order.ensures) ∙ sym c.is_lt.ensures ∙ c.if-is_lt.false),
    )

pub returns : goal.returns
returns c = grind (arith, common_steps)
